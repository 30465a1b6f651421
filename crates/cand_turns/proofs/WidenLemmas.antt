-- A list whose candidates each have a choice more, made beside the list that they come from.
use Rattle.std.proofs.Common.{◌≡◌, ℕ, ◌≤◌, List, [], ◌∷◌, map, length, refl, sym, ap, subst, arith, None}
use Rattle.std.specs.List.{All}
use Rattle.std.proofs.lemmas.List.Elements.{All-map}
use Rattle.sol_arena.specs.declared.arena.Arena.{Arena}
use Rattle.sol_arena.specs.declared.slot.Made.{Made}
use Rattle.sol_arena.specs.Arenas.{slots_of, made_of}
use Rattle.sol_arena.specs.Meanings.{cells_of}
use Rattle.sol_arena.specs.Slots.{IsLive as IsLiveSolution}
use Rattle.sol_arena.specs.Reach.{IsRestored}
use Rattle.cand_pool.specs.Candidates.{Candidates}
use Rattle.cand_pool.specs.Pools.{Block, IsLive, items_of, spare, KeepsOthers}
use Rattle.cand_pool.specs.declared.ends.List.{List as NamedList}
use Rattle.cand_pool.proofs.PublicLaws.{held_items, held_named}
use Rattle.cand_uses.proofs.ExchangeLemmas.{exchange_as}
use Rattle.vg_convex.specs.Lists.{AreBareAt, AreAdded, AreWithCells}
use Rattle.vg_convex.specs.declared.work.Made.{Made as Result}
use Rattle.vg_convex.proofs.Adds.{added_exchange}
use Rattle.cand_turns.specs.Swaps.{search, Slots, at_slots, AreHeld, IsSwap, IsTurn}
use Rattle.cand_turns.specs.Widened.{AreChosen, chosen_for}
use Rattle.cand_turns.proofs.SwapLemmas.{turn_then, swap_then, other_items}
use Rattle.cand_turns.proofs.BranchLemmas.{one_held}
use Rattle.cand_turns.proofs.AddLemmas.{add_turn, grown, grown_turn}
use Rattle.cand_turns.proofs.RestoredLemmas.{restored_exchange}

-- THE POOL GROWS beside the list
module _ (s t : Block) (slots : Slots) (list : NamedList) (held : AreHeld (at_slots s slots) (list ∷ [])) (others : KeepsOthers s [] t []) (more : spare s ≤ spare t) where
  pub grown_items : items_of t list ≡ items_of s list
  grown_items = other_items (at_slots s slots) (at_slots t slots) [] [] (list ∷ []) held (grown s t slots others more) list (0, omega arith, refl)

  pub grown_live : IsLive t list
  grown_live = (one_held (at_slots t slots) list (grown_turn s t slots (list ∷ []) held others more).held).0

-- THE RESULTS
pub results_live : (ms : List Made) (site row added : ℕ) (xs : Candidates) → AreBareAt ms site xs → All (λ (r : Result). IsLiveSolution ms r.tag) (map (chosen_for row added) xs)
results_live ms site row added xs bare = All-map (λ (r : Result). IsLiveSolution ms r.tag) (chosen_for row added) xs bare.live

pub results_bare : (ms : List Made) (site row added : ℕ) (xs : Candidates) → AreBareAt ms site xs → All (λ (r : Result). cells_of ms r.tag site ≡ None) (map (chosen_for row added) xs)
results_bare ms site row added xs bare = All-map (λ (r : Result). cells_of ms r.tag site ≡ None) (chosen_for row added) xs bare.bare

pub chosen_are : (old new : List Made) (site row added : ℕ) (xs zs : Candidates) → AreWithCells old new site (map (chosen_for row added) xs) zs → AreChosen old new site row added xs zs
chosen_are old new site row added [] [] all = all
chosen_are old new site row added [] (z ∷ zs) all = absurd all
chosen_are old new site row added (x ∷ xs) [] all = absurd all
chosen_are old new site row added (x ∷ xs) (z ∷ zs) all = (record { pair = all.0.pair; means = all.0.cell.means }, chosen_are old new site row added xs zs all.1)

-- THE LIST was made
module _ (old new : Arena) (s t u : Block) (list : NamedList) (zs : Candidates) (others : KeepsOthers s [] t []) (more : spare s ≤ spare t)
    (added : AreAdded t u (slots_of old) (slots_of new) list zs) where
  items_are : items_of u list ≡ zs
  items_are = held_items u list.ends.first list.ends.last zs added.held

  pub widened_turn : IsTurn (search s old) [] (search u new) (list ∷ [])
  widened_turn =
      turn_then (search s old) (search t old) (search u new) [] [] (list ∷ []) (grown s t (slots_of old) others more)
      (add_turn (search t old) (search u new) list
      (exchange_as (slots_of old) (slots_of new) [] zs (items_of u list) (sym items_are) (added_exchange old new zs added.uses added.solutions))
      added.others (omega (arith, added.room, ap (λ (l : Candidates). length l) items_are))
      (held_named u list.ends.first list.ends.last zs added.held))

  pub widened_chosen : (site row more' : ℕ) (results : List Result) (xs : Candidates) → results ≡ map (chosen_for row more') xs
      → AreWithCells (made_of old) (made_of new) site results zs → AreChosen (made_of old) (made_of new) site row more' xs (items_of u list)
  widened_chosen site row more' results xs results_are all =
      subst (λ (l : Candidates). AreChosen (made_of old) (made_of new) site row more' xs l) (sym items_are)
      (chosen_are (made_of old) (made_of new) site row more' xs zs (subst (λ (rs : List Result). AreWithCells (made_of old) (made_of new) site rs zs) results_are all))

-- or not
pub widened_lost : (old new : Arena) (s t u : Block) → KeepsOthers s [] t [] → spare s ≤ spare t → KeepsOthers t [] u [] → spare u ≡ spare t
    → IsRestored (slots_of old) (slots_of new) → IsSwap (search s old) [] (search u new) []
widened_lost old new s t u others more lost free restored =
    swap_then (search s old) (search t old) (search u new) [] [] [] (grown s t (slots_of old) others more).swap
    (record { uses = restored_exchange old new restored; others = lost; spare = omega (arith, free) })
