-- Lists that are made beside others.
use Rattle.std.proofs.Common.{◌≡◌, ℕ, ◌+◌, ◌≤◌, Bool, true, false, List, [], ◌∷◌, ◌++◌, length, refl, sym, ap, arith}
use Rattle.std.proofs.lemmas.List.Sorted.{IsPermutation-refl, IsPermutation-append_comm}
use Rattle.std.proofs.lemmas.List.Elements.{All-nil}
use Rattle.std.specs.List.{Contains}
use Rattle.sol_arena.specs.declared.arena.Arena.{Arena}
use Rattle.sol_arena.specs.Arenas.{made_of}
use Rattle.wire_widths.specs.WideSolutions.{IsWideSolutionOf}
use Rattle.cand_pool.specs.Candidates.{Candidates}
use Rattle.cand_pool.specs.Pools.{Block, IsLive, items_of, spare, name, KeepsOthers}
use Rattle.cand_pool.specs.declared.ends.List.{List as NamedList}
use Rattle.cand_uses.specs.Uses.{IsExchange}
use Rattle.cand_uses.proofs.ExchangeLemmas.{exchange_as, exchanged_held, no_exchange}
use Rattle.elmore.specs.declared.pair.Pair.{Pair}
use Rattle.elmore.specs.declared.problem.Problem.{Problem}
use Rattle.wire_widths.specs.declared.width.Width.{Width}
use Rattle.cand_turns.specs.Swaps.{Search, search, Slots, at_slots, Lists, AreHeld, IsSwap, IsTurn}
use Rattle.cand_turns.specs.Branches.{classes_in, lists_of}
use Rattle.cand_turns.specs.Celled.{AreBest}
use Rattle.cand_turns.specs.declared.branch.Branch.{Branch}
use Rattle.cand_turns.proofs.SwapLemmas.{turn_then, turn_among, beside, order_held, front_held, other_items}
use Rattle.cand_turns.proofs.BranchLemmas.{one_all, one_made}
use Rattle.cand_turns.proofs.MeetLemmas.{exact_as, solved_beside}

-- a list is made
pub add_turn : (old new : Search) (list : NamedList) → IsExchange old.slots [] new.slots (items_of new.pool list) → KeepsOthers old.pool [] new.pool (name list ∷ [])
    → spare old.pool ≡ spare new.pool + length (items_of new.pool list) → IsLive new.pool list → IsTurn old [] new (list ∷ [])
add_turn old new list uses others free live =
    let uses' : IsExchange old.slots [] new.slots (items_of new.pool list ++ []) = exchange_as _ _ _ _ _ (sym (one_all new.pool list)) uses in
    record {
      held = one_made new list live (exchanged_held old.slots new.slots [] (items_of new.pool list ++ []) (λ s some. omega arith) uses');
      swap = record {
        uses = uses';
        others = others;
        spare = omega (arith, free, ap (λ (l : Candidates). length l) (one_all new.pool list));
      };
    }

-- none is made
pub none_turn : (old new : Search) (given : Lists) → IsSwap old given new [] → IsTurn old given new []
none_turn old new given swap = record {
  held = record { live = All-nil (IsLive new.pool); apart = λ k some. omega arith; uses = λ s some. omega arith };
  swap = swap;
}

-- the last of some lists are held
pub rest_held : (at : Search) (xs ys : Lists) → AreHeld at (xs ++ ys) → AreHeld at ys
rest_held at xs ys held = front_held at ys xs (order_held at (xs ++ ys) (ys ++ xs) (IsPermutation-append_comm xs ys) held)

-- one list is made after another
pub list_more : (a b : Search) (x y : NamedList) → AreHeld a (x ∷ []) → IsTurn a [] b (y ∷ []) → IsTurn a (x ∷ []) b (x ∷ y ∷ [])
list_more a b x y held turn =
    turn_among a b [] (y ∷ []) (x ∷ []) (x ∷ []) (x ∷ y ∷ []) held (IsPermutation-refl (x ∷ [])) (IsPermutation-append_comm (y ∷ []) (x ∷ [])) turn

pub two_adds : (a b c : Search) (x y : NamedList) → IsTurn a [] b (x ∷ []) → IsTurn b [] c (y ∷ []) → IsTurn a [] c (x ∷ y ∷ [])
two_adds a b c x y one two = turn_then a b c [] (x ∷ []) (x ∷ y ∷ []) one (list_more b c x y one.held two)

-- the first is ended where the second was not made
pub still_held : (b c : Search) (x : NamedList) → AreHeld b (x ∷ []) → IsSwap b [] c [] → IsTurn b (x ∷ []) c (x ∷ [])
still_held b c x held lost = beside b c [] [] (x ∷ []) held (none_turn b c [] lost)

pub add_lost : (a b c d : Search) (x : NamedList) → IsTurn a [] b (x ∷ []) → IsSwap b [] c [] → IsTurn c (x ∷ []) d [] → IsSwap a [] d []
add_lost a b c d x one lost end =
    (turn_then a b d [] (x ∷ []) [] one (turn_then b c d (x ∷ []) (x ∷ []) [] (still_held b c x one.held lost) end)).swap

-- what is made beside a branch leaves its classes
pub classes_same : (old new : Search) (given made : Lists) (branch : Branch) → AreHeld old (given ++ lists_of branch) → IsTurn old given new made
    → (odd : Bool) → classes_in new.pool branch odd ≡ classes_in old.pool branch odd
classes_same old new given made branch held turn true = other_items old new given made (lists_of branch) held turn branch.odd (1, omega arith, refl)
classes_same old new given made branch held turn false = other_items old new given made (lists_of branch) held turn branch.even (0, omega arith, refl)

-- and a list as it is
pub best_beside : (p : Problem) (ws : List Width) (v : ℕ) (odd : Bool) (In : Pair → Type 0) (old new : Arena) (s t : Block) (given made others : Lists) → AreHeld (search s old) (given ++ others)
    → IsTurn (search s old) given (search t new) made → (l : NamedList) → Contains others l → AreBest p ws v odd In (made_of old) (items_of s l)
    → AreBest p ws v odd In (made_of new) (items_of t l)
best_beside p ws v odd In old new s t given made others held turn l found is = record {
  exact = exact_as In _ _ (sym (other_items (search s old) (search t new) given made others held turn l found)) is.exact;
  solved = solved_beside (IsWideSolutionOf p ws v odd) old new s t given made others held turn l found is.solved;
}

-- a pool gets more slots
pub grown : (s t : Block) (slots : Slots) → KeepsOthers s [] t [] → spare s ≤ spare t → IsTurn (at_slots s slots) [] (at_slots t slots) []
grown s t slots others more = none_turn (at_slots s slots) (at_slots t slots) [] (record { uses = no_exchange slots []; others = others; spare = omega (arith, more) })

pub grown_turn : (s t : Block) (slots : Slots) (lists : Lists) → AreHeld (at_slots s slots) lists → KeepsOthers s [] t [] → spare s ≤ spare t
    → IsTurn (at_slots s slots) lists (at_slots t slots) lists
grown_turn s t slots lists held others more = beside (at_slots s slots) (at_slots t slots) [] [] lists held (grown s t slots others more)

pub grown_classes : (s t : Block) (slots : Slots) (branch : Branch) → AreHeld (at_slots s slots) (lists_of branch) → KeepsOthers s [] t [] → spare s ≤ spare t
    → classes_in t branch ≡ classes_in s branch
grown_classes s t slots branch held others more =
    λ i odd. classes_same (at_slots s slots) (at_slots t slots) [] [] branch held (grown s t slots others more) odd i
