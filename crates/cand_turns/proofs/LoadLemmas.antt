-- A load beside a branch.
use Rattle.std.proofs.Common.{◌≡◌, ℕ, [], ◌∷◌, map, refl, sym, arith}
use Rattle.std.proofs.lemmas.List.{length-map}
use Rattle.cand_pool.specs.Candidates.{loaded}
use Rattle.cand_pool.specs.Pools.{Block, Holds, items_of, spare, name, KeepsOthers}
use Rattle.cand_pool.specs.declared.ends.List.{List as NamedList}
use Rattle.cand_uses.specs.Uses.{HoldsFor}
use Rattle.cand_uses.proofs.ExchangeLemmas.{no_exchange, exchange_same}
use Rattle.cand_pool.proofs.PublicLaws.{held_items}
use Rattle.cand_lists.proofs.KeptLemmas.{loaded_uses}
use Rattle.cand_turns.specs.Swaps.{Slots, Search, at_slots, AreHeld, IsTurn}
use Rattle.cand_turns.specs.Branches.{lists_of}
use Rattle.cand_turns.specs.declared.branch.Branch.{Branch}
use Rattle.cand_turns.proofs.BranchLemmas.{one_turn, AreTwo, two_held, even_turn, odd_stays}

-- one list with a load more
pub load_turn : (old new : Block) (slots : Slots) (list list' : NamedList) (c : ℕ) → HoldsFor slots (items_of old list) → KeepsOthers old (name list ∷ []) new (name list' ∷ [])
    → spare new ≡ spare old → Holds new list' (map (loaded c) (items_of old list)) → IsTurn (at_slots old slots) (list ∷ []) (at_slots new slots) (list' ∷ [])
load_turn old new slots list list' c held others free live =
    one_turn (at_slots old slots) (at_slots new slots) list list' (map (loaded c) (items_of old list)) held
    (exchange_same slots slots (items_of old list) (items_of old list) (items_of old list) (map (loaded c) (items_of old list)) (λ s. refl) (λ s. sym (loaded_uses c (items_of old list) s)) (no_exchange slots (items_of old list)))
    others (omega (arith, free, length-map (items_of old list) (loaded c))) live

-- the one list of a branch has a load more, and then the other
pub record IsLoadedFirst (old new : Search) (branch : Branch) (list : NamedList) : Type 0 where
  pub turn : IsTurn old (lists_of branch) new (list ∷ branch.odd ∷ [])
  pub odd_is : items_of new.pool branch.odd ≡ items_of old.pool branch.odd
  pub left : AreTwo new list branch.odd

pub loaded_first : (old new : Block) (slots : Slots) (branch : Branch) (list : NamedList) (c : ℕ) → AreHeld (at_slots old slots) (lists_of branch)
    → KeepsOthers old (name branch.even ∷ []) new (name list ∷ []) → spare new ≡ spare old → Holds new list (map (loaded c) (items_of old branch.even))
    → IsLoadedFirst (at_slots old slots) (at_slots new slots) branch list
loaded_first old new slots branch list c held others free live = record {
  turn = turn;
  odd_is = held_items _ _ _ _ (odd_stays (at_slots old slots) (at_slots new slots) branch list held one);
  left = two_held (at_slots new slots) list branch.odd turn.held;
} where
  one : IsTurn (at_slots old slots) (branch.even ∷ []) (at_slots new slots) (list ∷ [])
  one = load_turn old new slots branch.even list c (two_held (at_slots old slots) branch.even branch.odd held).first others free live

  turn : IsTurn (at_slots old slots) (lists_of branch) (at_slots new slots) (list ∷ branch.odd ∷ [])
  turn = even_turn (at_slots old slots) (at_slots new slots) branch list held one
