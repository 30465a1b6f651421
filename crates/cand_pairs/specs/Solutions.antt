-- Solutions: which repeater, if any, a candidate has at each node, and what that makes of the net.
use Rattle.std.specs.Prelude.{◌≡◌, ℕ, Bool, true, cond, ◌==◌, List, map, length, Option, Some, None}
use Rattle.std.specs.List.{Contains}
use Rattle.elmore.specs.Legal.{IsPlaced}
use Rattle.elmore.specs.Pairs.{IsPairOf}
use Rattle.elmore.specs.Path.{is_over, nodes as node_numbers}
use Rattle.elmore.specs.Placements.{IsPlacement}
use Rattle.elmore.specs.Trees.{parent_of}
use Rattle.cand_pairs.specs.Candidates.{IsOpenWith, Fork, PairSets}
use Rattle.elmore.specs.declared.pair.Pair.{Pair}
use Rattle.elmore.specs.declared.problem.Problem.{Problem}

-- the placement that has these repeaters
abbrev pub cells_by : Problem → (ℕ → Option ℕ) → List (Option ℕ)
cells_by p held = map held (node_numbers (length p.tree.nodes))

-- what one of two solutions has, and a solution with one more cell
abbrev pub either_of : Option ℕ → Option ℕ → Option ℕ
either_of None b = b
either_of (Some a) b = Some a

abbrev pub joined : (ℕ → Option ℕ) → (ℕ → Option ℕ) → ℕ → Option ℕ
joined f g u = either_of (f u) (g u)

abbrev pub with_own : ℕ → Option ℕ → (ℕ → Option ℕ) → ℕ → Option ℕ
with_own v own f u = cond (u == v) own (f u)

-- the pairs of one placement
abbrev pub pairs_of : Problem → List (Option ℕ) → PairSets
pairs_of p cells u odd x = IsPairOf p u odd cells x

-- the solution has cells at v and below it alone, and comes to this pair
pub record IsSolutionOf (p : Problem) (v : ℕ) (odd : Bool) (held : ℕ → Option ℕ) (x : Pair) : Type 0 where
  pub pair : IsPairOf p v odd (cells_by p held) x
  pub inside : (u b : ℕ) → held u ≡ Some b → is_over (parent_of p.tree.nodes) v u ≡ true

-- the solution has cells at and below these children alone, and comes to this pair without a cell at the node
pub record IsOpenSolutionOf (p : Problem) (odd : Bool) (fork : Fork) (held : ℕ → Option ℕ) (x : Pair) : Type 0 where
  pub pair : IsOpenWith p (pairs_of p (cells_by p held)) odd fork x
  pub placement : IsPlacement p (cells_by p held)
  pub placed : IsPlaced p (cells_by p held)
  pub inside : (u b : ℕ) → held u ≡ Some b → (h : ℕ) × Contains fork.children h
      × (is_over (parent_of p.tree.nodes) h u ≡ true)
