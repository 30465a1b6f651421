-- A branch, and what cells make of it.
use Rattle.std.proofs.Common.{◌≡◌, ℕ, ◌+◌, ◌<◌, ◌≤◌, Bool, true, false, List, [], ◌++◌, length, slice_index_or, refl, sym, ap, arith}
use Rattle.std.proofs.lemmas.List.Sorted.{IsPermutation-refl, IsPermutation-append_comm}
use Rattle.elmore.specs.declared.problem.Problem.{Problem}
use Rattle.wire_widths.specs.declared.width.Width.{Width}
use Rattle.sol_arena.specs.declared.arena.Arena.{Arena}
use Rattle.sol_arena.specs.Arenas.{made_of}
use Rattle.cand_pool.specs.Candidates.{Candidates}
use Rattle.cand_pool.specs.Pools.{Block}
use Rattle.cand_uses.specs.Uses.{MeanTheSame}
use Rattle.cand_lists.specs.ListLaws.{both}
use Rattle.cand_turns.specs.Swaps.{Search, search, AreHeld, IsTurn}
use Rattle.cand_turns.specs.Branches.{classes_in, lists_of}
use Rattle.cand_turns.specs.Solved.{CanWiden, IsOpenAt, IsClosedAt}
use Rattle.cand_turns.specs.Tooled.{added_at}
use Rattle.cand_turns.specs.Celled.{IsMadeOfClasses, AreBest}
use Rattle.cand_turns.specs.declared.branch.Branch.{Branch}
use Rattle.cand_turns.proofs.SwapLemmas.{turn_among}
use Rattle.cand_turns.proofs.PartLemmas.{open_at_beside}
use Rattle.cand_turns.proofs.AddLemmas.{classes_same}
use Rattle.cand_turns.proofs.CellLemmas.{place_closed, both_few}
use Rattle.cand_turns.proofs.ClassLemmas.{classes_as}

pub beside_cells : (a b : Search) (branch cells : Branch) → AreHeld a (lists_of branch) → IsTurn a [] b (lists_of cells) → IsTurn a (lists_of branch) b (lists_of branch ++ lists_of cells)
beside_cells a b branch cells held turn =
    turn_among a b [] (lists_of cells) (lists_of branch) (lists_of branch) (lists_of branch ++ lists_of cells) held (IsPermutation-refl (lists_of branch))
    (IsPermutation-append_comm (lists_of cells) (lists_of branch)) turn

-- both together are closed
pub cells_closed : (p : Problem) (ws : List Width) (v : ℕ) (before middle after : Arena) (r s t : Block) (branch cells made : Branch) → CanWiden p ws → v < length p.tree.nodes
    → AreHeld (search r before) (lists_of branch) → IsTurn (search r before) [] (search s middle) (lists_of cells) → IsOpenAt p ws (v + 1) v (made_of before) (classes_in r branch)
    → ((odd : Bool) → AreBest p ws v odd (IsMadeOfClasses p v odd (classes_in r branch)) (made_of middle) (classes_in s cells odd))
    → ((odd : Bool) → classes_in t made odd ≡ both (classes_in s branch odd) (classes_in s cells odd))
    → ((odd : Bool) → MeanTheSame (made_of middle) (made_of after) (classes_in t made odd)) → IsClosedAt p ws v (made_of after) (classes_in t made)
cells_closed p ws v before middle after r s t branch cells made can v_n held turn at best made_is same =
    place_closed p ws v (made_of middle) (made_of after) (classes_in s branch) (classes_in s cells) (classes_in t made) can v_n
    (open_at_beside p ws (v + 1) v before middle r s [] (lists_of cells) branch held turn at)
    (λ odd. classes_as p ws v odd (classes_in r branch) (classes_in s branch) (made_of middle) (classes_in s cells odd)
    (λ o. sym (classes_same (search r before) (search s middle) [] (lists_of cells) branch held turn o)) (best odd))
    made_is same

-- at most as many as there are repeaters come to each class of a place
added_here : (p : Problem) (v : ℕ) → slice_index_or p.places v false ≡ true → added_at p v ≡ length p.reps
added_here p v place = rw place refl

pub cells_few : (p : Problem) (v : ℕ) (before middle : Search) (t : Block) (branch cells made : Branch) → slice_index_or p.places v false ≡ true
    → AreHeld before (lists_of branch) → IsTurn before [] middle (lists_of cells)
    → ((odd : Bool) → classes_in t made odd ≡ both (classes_in middle.pool branch odd) (classes_in middle.pool cells odd))
    → ((odd : Bool) → length (classes_in middle.pool cells odd) ≤ length p.reps)
    → (odd : Bool) → length (classes_in t made odd) ≤ length (classes_in before.pool branch odd) + added_at p v
cells_few p v before middle t branch cells made place held turn made_is few odd =
    omega (
      arith,
      added_here p v place,
      ap (λ (l : Candidates). length l) (made_is odd),
      both_few (classes_in middle.pool branch odd) (classes_in middle.pool cells odd),
      few odd,
      ap (λ (l : Candidates). length l) (classes_same before middle [] (lists_of cells) branch held turn odd),
    )
