-- The candidates with a cell at a node, of one class and of both.
use Rattle.std.proofs.Common.{◌≡◌, ℕ, ◌+◌, ◌≤◌, Bool, true, false, List, [], ◌∷◌, length, refl, sym, ap, subst, arith}
use Rattle.elmore.specs.Cells.{rep_at}
use Rattle.cand_pairs.specs.Merging.{IsGreatestBy}
use Rattle.elmore.specs.declared.problem.Problem.{Problem}
use Rattle.wire_widths.specs.declared.width.Width.{Width}
use Rattle.sol_arena.specs.declared.arena.Arena.{Arena}
use Rattle.sol_arena.specs.declared.slot.Made.{Made}
use Rattle.sol_arena.specs.Arenas.{slots_of, made_of}
use Rattle.cand_pool.specs.Candidates.{Candidates}
use Rattle.cand_pool.specs.Pools.{Block, IsLive, items_of, spare, KeepsOthers}
use Rattle.cand_pool.specs.declared.ends.List.{List as NamedList}
use Rattle.cand_uses.specs.Pairs.{pairs_of}
use Rattle.cand_uses.specs.Uses.{HoldsFor}
use Rattle.cand_lists.specs.ListLaws.{AreRising}
use Rattle.cand_turns.specs.Swaps.{search, Search, Lists, AreHeld, IsTurn}
use Rattle.cand_turns.specs.Branches.{classes_in, list_of, lists_of}
use Rattle.cand_turns.specs.Solved.{IsOpenAt}
use Rattle.cand_turns.specs.Celled.{behind, IsMadeOfClasses, IsOpenList, AreBest}
use Rattle.cand_turns.specs.declared.branch.Branch.{Branch}
use Rattle.cand_turns.proofs.SwapLemmas.{beside, other_items}
use Rattle.cand_turns.proofs.BranchLemmas.{one_all, two_held}
use Rattle.cand_turns.proofs.PartLemmas.{open_at_beside}
use Rattle.cand_turns.proofs.AddLemmas.{rest_held, classes_same, best_beside, grown_turn, grown_classes}
use Rattle.cand_turns.proofs.CellLemmas.{best_as, open_list}

-- the list of a class
pub class_live : (at : Search) (branch : Branch) (odd : Bool) (l : NamedList) → l ≡ list_of branch odd → AreHeld at (lists_of branch) → IsLive at.pool l
class_live at branch odd l e held = subst (λ (k : NamedList). IsLive at.pool k) (sym e) (live odd) where
  live : (o : Bool) → IsLive at.pool (list_of branch o)
  live true = (two_held at branch.even branch.odd held).two
  live false = (two_held at branch.even branch.odd held).one

pub class_uses : (at : Search) (branch : Branch) (odd : Bool) (l : NamedList) → l ≡ list_of branch odd → AreHeld at (lists_of branch) → HoldsFor at.slots (items_of at.pool l)
class_uses at branch odd l e held = subst (λ (k : NamedList). HoldsFor at.slots (items_of at.pool k)) (sym e) (uses odd) where
  uses : (o : Bool) → HoldsFor at.slots (items_of at.pool (list_of branch o))
  uses true = (two_held at branch.even branch.odd held).second
  uses false = (two_held at branch.even branch.odd held).first

pub class_open : (p : Problem) (ws : List Width) (v : ℕ) (ms : List Made) (s : Block) (branch : Branch) (odd : Bool) (l : NamedList) → l ≡ list_of branch odd
    → IsOpenAt p ws (v + 1) v ms (classes_in s branch) → IsOpenList p ws v odd ms (items_of s l)
class_open p ws v ms s branch odd l e at = subst (λ (k : NamedList). IsOpenList p ws v odd ms (items_of s k)) (sym e) (open_list p ws v ms (classes_in s branch) odd at)

-- the pool of a branch got more slots
module _ (p : Problem) (ws : List Width) (v : ℕ) (branch : Branch) (arena : Arena) (r s : Block) (held : AreHeld (search r arena) (lists_of branch)) (others : KeepsOthers r [] s [])
    (more : spare r ≤ spare s) where
  pub grown_held : AreHeld (search s arena) (lists_of branch)
  grown_held = (grown_turn r s (slots_of arena) (lists_of branch) held others more).held

  pub grown_open : IsOpenAt p ws (v + 1) v (made_of arena) (classes_in r branch) → IsOpenAt p ws (v + 1) v (made_of arena) (classes_in s branch)
  grown_open opens = subst (IsOpenAt p ws (v + 1) v (made_of arena)) (sym (grown_classes r s (slots_of arena) branch held others more)) opens

  pub grown_best : (odd : Bool) (ms : List Made) (xs : Candidates) → AreBest p ws v odd (IsMadeOfClasses p v odd (classes_in s branch)) ms xs
      → AreBest p ws v odd (IsMadeOfClasses p v odd (classes_in r branch)) ms xs
  grown_best odd ms xs best =
      subst (λ (classes : Bool → Candidates). AreBest p ws v odd (IsMadeOfClasses p v odd classes) ms xs) (grown_classes r s (slots_of arena) branch held others more) best

-- the same pairs of the same classes
pub classes_as : (p : Problem) (ws : List Width) (v : ℕ) (odd : Bool) (classes classes' : Bool → Candidates) (ms : List Made) (xs : Candidates) → ((o : Bool) → classes o ≡ classes' o)
    → AreBest p ws v odd (IsMadeOfClasses p v odd classes) ms xs → AreBest p ws v odd (IsMadeOfClasses p v odd classes') ms xs
classes_as p ws v odd classes classes' ms xs same are =
    best_as p ws v odd (IsMadeOfClasses p v odd classes) (IsMadeOfClasses p v odd classes') ms xs
    (λ z (b, choice, is). (b, choice, subst (λ (l : Candidates). IsGreatestBy (rep_at p.reps b) (pairs_of l) z) (same (behind (rep_at p.reps b).inverts odd)) is))
    (λ z (b, choice, is). (b, choice, subst (λ (l : Candidates). IsGreatestBy (rep_at p.reps b) (pairs_of l) z) (sym (same (behind (rep_at p.reps b).inverts odd))) is)) are

-- lists are made beside a branch
module _ (p : Problem) (ws : List Width) (v : ℕ) (branch : Branch) (before after : Arena) (r s : Block) (made : Lists) (held : AreHeld (search r before) (lists_of branch))
    (one : IsTurn (search r before) [] (search s after) made) where
  pub branch_held : AreHeld (search s after) (lists_of branch)
  branch_held = rest_held (search s after) made (lists_of branch) (beside (search r before) (search s after) [] made (lists_of branch) held one).held

  pub branch_open : IsOpenAt p ws (v + 1) v (made_of before) (classes_in r branch) → IsOpenAt p ws (v + 1) v (made_of after) (classes_in s branch)
  branch_open opens = open_at_beside p ws (v + 1) v before after r s [] made branch held one opens

  branch_same : (odd : Bool) → classes_in s branch odd ≡ classes_in r branch odd
  branch_same odd = classes_same (search r before) (search s after) [] made branch held one odd

  -- the candidates of a class, as they were
  pub uses_after : (odd : Bool) → HoldsFor (slots_of after) (classes_in r branch odd)
  uses_after odd =
      subst (λ (l : Candidates). HoldsFor (slots_of after) l) (branch_same odd) (class_uses (search s after) branch odd (list_of branch odd) refl branch_held)

  pub open_after : (odd : Bool) → IsOpenAt p ws (v + 1) v (made_of before) (classes_in r branch) → IsOpenList p ws v odd (made_of after) (classes_in r branch odd)
  open_after odd opens =
      subst (λ (l : Candidates). IsOpenList p ws v odd (made_of after) l) (branch_same odd) (open_list p ws v (made_of after) (classes_in s branch) odd (branch_open opens))

-- the slots that a list took
pub one_less : (old new : Search) (x : NamedList) → IsTurn old [] new (x ∷ []) → spare old.pool ≤ spare new.pool + length (items_of new.pool x)
one_less old new x one = omega (arith, one.swap.spare, ap (λ (l : Candidates). length l) (one_all new.pool x))

-- the cells of both classes, of which those of the other class were made last
module _ (p : Problem) (ws : List Width) (v : ℕ) (branch : Branch) (r : Block) (middle after : Arena) (s t : Block) (even odd : NamedList) (held : AreHeld (search s middle) (even ∷ []))
    (two : IsTurn (search s middle) [] (search t after) (odd ∷ [])) where
  pub both_made : AreBest p ws v false (IsMadeOfClasses p v false (classes_in r branch)) (made_of middle) (items_of s even)
      → AreBest p ws v true (IsMadeOfClasses p v true (classes_in r branch)) (made_of after) (items_of t odd)
      → (o : Bool) → AreBest p ws v o (IsMadeOfClasses p v o (classes_in r branch)) (made_of after) (classes_in t (record { even = even; odd = odd }) o)
  both_made evens odds true = odds
  both_made evens odds false =
      best_beside p ws v false (IsMadeOfClasses p v false (classes_in r branch)) middle after s t [] (odd ∷ []) (even ∷ []) held two even (0, omega arith, refl) evens

  pub both_less : length (items_of s even) ≤ length p.reps → length (items_of t odd) ≤ length p.reps
      → (o : Bool) → length (classes_in t (record { even = even; odd = odd }) o) ≤ length p.reps
  both_less evens odds true = odds
  both_less evens odds false =
      omega (arith, evens, ap (λ (l : Candidates). length l) (other_items (search s middle) (search t after) [] (odd ∷ []) (even ∷ []) held two even (0, omega arith, refl)))

-- what is made beside a branch leaves what rises in it
pub branch_rises : (old new : Search) (branch : Branch) (made : Lists) → AreHeld old (lists_of branch) → IsTurn old [] new made
    → ((odd : Bool) → AreRising (classes_in old.pool branch odd)) → (odd : Bool) → AreRising (classes_in new.pool branch odd)
branch_rises old new branch made held turn rise odd = subst (λ (l : Candidates). AreRising l) (sym (classes_same old new [] made branch held turn odd)) (rise odd)
