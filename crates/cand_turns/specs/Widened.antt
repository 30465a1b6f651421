-- What the wire of a node, under some of its widths, makes of a list there.
use Rattle.std.specs.Prelude.{◌≡◌, ℕ, ◌<◌, ◌≤◌, Bool, List, Some}
use Rattle.std.specs.List.{AllZip, Contains}
use Rattle.elmore.specs.Pairs.{IsUndominated}
use Rattle.elmore.specs.declared.pair.Pair.{Pair}
use Rattle.elmore.specs.declared.problem.Problem.{Problem}
use Rattle.sol_arena.specs.declared.slot.Made.{Made}
use Rattle.sol_arena.specs.Meanings.{cells_of, with_own}
use Rattle.cand_pairs.specs.Merging.{raised}
use Rattle.wire_widths.specs.WidePairs.{IsWidePairAt, carried_by}
use Rattle.wire_widths.specs.WideSolutions.{IsWideSolutionOf}
use Rattle.wire_widths.specs.declared.width.Width.{Width}
use Rattle.cand_pool.specs.Candidates.{Candidate, Candidates}
use Rattle.cand_uses.specs.Pairs.{pair_of, pairs_of}
use Rattle.vg_convex.specs.declared.work.Made.{Made as Result}
use Rattle.cand_turns.specs.Solved.{AreSolved, Beside, IsBesideSolution}

-- the candidates of one class of node v, with and without a cell there
pub record IsClosedClass (p : Problem) (widths : List Width) (v : ℕ) (odd : Bool) (ms : List Made)
    (xs : Candidates) : Type 0 where
  pub exact : IsUndominated (IsWidePairAt p widths v odd) (pairs_of xs)
  pub solved : AreSolved (IsWideSolutionOf p widths v odd) ms xs

-- what is to be chosen for a candidate at a site, with more load
abbrev pub chosen_for : ℕ → ℕ → Candidate → Result
chosen_for row added x = record { pair = raised added (pair_of x); rep = row; tag = x.tag }

-- candidate z is candidate x with this chosen at a site, and with more load
pub record IsChosen (old new : List Made) (site row added : ℕ) (x z : Candidate) : Type 0 where
  pub pair : pair_of z ≡ raised added (pair_of x)
  pub means : cells_of new z.tag ≡ with_own site (Some row) (cells_of old x.tag)

-- these candidates are those, in order
abbrev pub AreChosen : List Made → List Made → ℕ → ℕ → ℕ → Candidates → Candidates → Type 0
AreChosen old new site row added xs zs = AllZip (IsChosen old new site row added) xs zs

-- the pairs of a list through the wire of u, under the widths from one number to another
abbrev pub RowWires : Problem → List Width → ℕ → ℕ → ℕ → List Pair → Pair → Type 0
RowWires p widths u from to ys z =
    (i : ℕ) × (y : Pair) × (from ≤ i) × (i < to) × Contains ys y × (z ≡ carried_by p widths u i y)

-- the candidates above the wire of v, under the widths from one number to another and with this load beside its upper
-- end, of those that were these pairs below it
pub record IsUnderRows (p : Problem) (widths : List Width) (v c : ℕ) (odd : Bool) (kept : List Pair) (from to : ℕ)
    (ms : List Made) (xs : Candidates) : Type 0 where
  pub exact : IsUndominated (Beside c (RowWires p widths v from to kept)) (pairs_of xs)
  pub solved : AreSolved (IsBesideSolution p widths v c odd) ms xs
