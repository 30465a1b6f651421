-- What the lists of a node are worth: all undominated pairs there, each with a solution that comes to it. Each wire may
-- have any of the widths.
use Rattle.std.specs.Prelude.{◌≡◌, ℕ, Bool, cond, List, [], ◌∷◌, Option}
use Rattle.std.specs.Bool.{beq}
use Rattle.std.specs.List.{Contains}
use Rattle.elmore.specs.Pairs.{IsUndominated}
use Rattle.elmore.specs.declared.pair.Pair.{Pair}
use Rattle.elmore.specs.declared.parts.Sink.{Sink}
use Rattle.elmore.specs.declared.problem.Problem.{Problem}
use Rattle.sol_arena.specs.declared.slot.Made.{Made}
use Rattle.sol_arena.specs.Slots.{none}
use Rattle.sol_arena.specs.Meanings.{cells_of}
use Rattle.cand_pairs.specs.Merging.{fork_from, raised}
use Rattle.wire_widths.specs.Widths.{AreWidths}
use Rattle.wire_widths.specs.Fits.{Fits}
use Rattle.wire_widths.specs.WidePairs.{IsWidePairAt, WideWires}
use Rattle.wire_widths.specs.WideParts.{IsWideLivePart}
use Rattle.wire_widths.specs.WideSolutions.{IsWideSolutionOf, IsWideOpenSolutionOf, IsWideCarriedSolution}
use Rattle.wire_widths.specs.declared.width.Width.{Width}
use Rattle.cand_pool.specs.Candidates.{Candidate, Candidates}
use Rattle.cand_uses.specs.Pairs.{pair_of, pairs_of}

-- these are widths, and with them the loads of the net stay within the limit
pub record CanWiden (p : Problem) (widths : List Width) : Type 0 where
  pub are : AreWidths widths
  pub fits : Fits p widths

-- the solution of each candidate comes to its pair in this sense
abbrev pub AreSolved : ((ℕ → Option ℕ) → Pair → Type 0) → List Made → Candidates → Type 0
AreSolved Is ms xs = (x : Candidate) → Contains xs x → Is (cells_of ms x.tag) (pair_of x)

-- one candidate in the class that a sink wants, with the empty solution, and none in the other
abbrev pub sink_classes : Sink → ℕ → Bool → Candidates
sink_classes sink c odd = cond (beq odd sink.inverted) (record { q = sink.required; c = c; tag = none } ∷ []) []

-- the candidates of node v, with those of its children from number i on that came in, and without a cell at v
pub record IsOpenAt (p : Problem) (widths : List Width) (i v : ℕ) (ms : List Made)
    (classes : Bool → Candidates) : Type 0 where
  pub part : IsWideLivePart p widths i v (λ odd. pairs_of (classes odd))
  pub solved : (odd : Bool) → AreSolved (IsWideOpenSolutionOf p widths odd (fork_from p v i)) ms (classes odd)

-- the candidates of node v, with and without a cell there
pub record IsClosedAt (p : Problem) (widths : List Width) (v : ℕ) (ms : List Made)
    (classes : Bool → Candidates) : Type 0 where
  pub exact : (odd : Bool) → IsUndominated (IsWidePairAt p widths v odd) (pairs_of (classes odd))
  pub solved : (odd : Bool) → AreSolved (IsWideSolutionOf p widths v odd) ms (classes odd)

-- a pair of the set, with this load beside it
abbrev pub Beside : ℕ → (Pair → Type 0) → Pair → Type 0
Beside c In z = (y : Pair) × In y × (z ≡ raised c y)

-- the solution comes to what the wire of v makes of a pair there, with this load beside its upper end
abbrev pub IsBesideSolution : Problem → List Width → ℕ → ℕ → Bool → (ℕ → Option ℕ) → Pair → Type 0
IsBesideSolution p widths v c odd held x = Beside c (IsWideCarriedSolution p widths v odd held) x

-- the candidates of one class of node v, above its wire and with this load beside its upper end; below the wire they
-- were these pairs
pub record IsCarriedClass (p : Problem) (widths : List Width) (v c : ℕ) (odd : Bool) (kept : List Pair)
    (ms : List Made) (xs : Candidates) : Type 0 where
  pub below : IsUndominated (IsWidePairAt p widths v odd) kept
  pub exact : IsUndominated (Beside c (WideWires p widths v kept)) (pairs_of xs)
  pub solved : AreSolved (IsBesideSolution p widths v c odd) ms xs

-- those of both classes
abbrev pub IsCarriedAt : Problem → List Width → ℕ → ℕ → List Made → (Bool → Candidates) → Type 0
IsCarriedAt p widths v c ms classes =
    (kept : Bool → List Pair) × ((odd : Bool) → IsCarriedClass p widths v c odd (kept odd) ms (classes odd))
