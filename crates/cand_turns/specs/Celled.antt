-- What the repeaters that may stand at a node make of the lists of its classes.
use Rattle.std.specs.Prelude.{ℕ, ◌+◌, Bool, not, cond, List}
use Rattle.elmore.specs.Cells.{rep_at}
use Rattle.elmore.specs.Pairs.{IsUndominated}
use Rattle.elmore.specs.declared.pair.Pair.{Pair}
use Rattle.elmore.specs.declared.problem.Problem.{Problem}
use Rattle.sol_arena.specs.declared.slot.Made.{Made}
use Rattle.cand_pairs.specs.Merging.{fork_from, IsChoiceAt, IsGreatestBy}
use Rattle.wire_widths.specs.WideParts.{IsWideOpenFrom}
use Rattle.wire_widths.specs.WideSolutions.{IsWideOpenSolutionOf, IsWideSolutionOf}
use Rattle.wire_widths.specs.declared.width.Width.{Width}
use Rattle.cand_pool.specs.Candidates.{Candidates}
use Rattle.cand_uses.specs.Pairs.{pairs_of}
use Rattle.cand_turns.specs.Solved.{AreSolved}

-- the class of the signal behind a repeater that is reached in a class: behind a buffer the same, behind an inverter
-- the other
abbrev pub behind : Bool → Bool → Bool
behind inverts odd = cond inverts (not odd) odd

-- a repeater that may stand at v makes z of the list of the class behind it, and no pair with more time
abbrev pub IsMadeOfClasses : Problem → ℕ → Bool → (Bool → Candidates) → Pair → Type 0
IsMadeOfClasses p v odd classes z = (b : ℕ) × IsChoiceAt p v b
    × IsGreatestBy (rep_at p.reps b) (pairs_of (classes (behind (rep_at p.reps b).inverts odd))) z

-- the candidates of one class of node v, without a cell there
pub record IsOpenList (p : Problem) (widths : List Width) (v : ℕ) (odd : Bool) (ms : List Made)
    (xs : Candidates) : Type 0 where
  pub exact : IsUndominated (IsWideOpenFrom p widths (v + 1) v odd) (pairs_of xs)
  pub solved : AreSolved (IsWideOpenSolutionOf p widths odd (fork_from p v (v + 1))) ms xs

-- the undominated ones of these pairs, for one class of node v
pub record AreBest (p : Problem) (widths : List Width) (v : ℕ) (odd : Bool) (In : Pair → Type 0) (ms : List Made)
    (xs : Candidates) : Type 0 where
  pub exact : IsUndominated In (pairs_of xs)
  pub solved : AreSolved (IsWideSolutionOf p widths v odd) ms xs
