-- Solutions: which repeater, if any, a candidate has at each node, which width at each wire, and what that makes of the
-- net. A solution makes its choices at sites: the nodes by their numbers, and after them the wires, each by the node at
-- its lower end.
use Rattle.std.specs.Prelude.{◌≡◌, ◌⊎◌, ℕ, ◌+◌, ◌<◌, ◌==◌, Bool, true, cond, List, map, length, Option, Some, None}
use Rattle.std.specs.List.{Contains}
use Rattle.elmore.specs.Legal.{IsPlaced}
use Rattle.elmore.specs.Path.{is_over, nodes as node_numbers}
use Rattle.elmore.specs.Placements.{IsPlacement}
use Rattle.elmore.specs.Trees.{parent_of}
use Rattle.elmore.specs.declared.pair.Pair.{Pair}
use Rattle.elmore.specs.declared.problem.Problem.{Problem}
use Rattle.cand_pairs.specs.Candidates.{Fork, PairSets}
use Rattle.cand_pairs.specs.Solutions.{cells_by, with_own}
use Rattle.wire_widths.specs.Widths.{IsLawful, chosen_at}
use Rattle.wire_widths.specs.WidePairs.{IsWidePairOf, IsWideOpenBy, carried_by}
use Rattle.wire_widths.specs.declared.width.Width.{Width}

-- the site of the wire above u
abbrev pub wire_site : Problem → ℕ → ℕ
wire_site p u = length p.tree.nodes + u

-- a wire where nothing was chosen has the first width
abbrev pub row_of : Option ℕ → ℕ
row_of None = 0
row_of (Some i) = i

-- the widths that a solution gives the wires
abbrev pub rows_by : Problem → (ℕ → Option ℕ) → List ℕ
rows_by p held = map (λ u. row_of (held (wire_site p u))) (node_numbers (length p.tree.nodes))

-- the solution with the width i for the wire above v, which has none yet
abbrev pub with_row : Problem → ℕ → ℕ → (ℕ → Option ℕ) → ℕ → Option ℕ
with_row p v i held = cond (i == 0) held (with_own (wire_site p v) (Some i) held)

-- the site is that of a node at or below v, or of the wire above one
pub record IsSiteUnder (p : Problem) (v site : ℕ) : Type 0 where
  pub node : ℕ
  pub within : node < length p.tree.nodes
  pub under : is_over (parent_of p.tree.nodes) v node ≡ true
  pub site_is : (site ≡ node) ⊎ (site ≡ wire_site p node)

-- the solution has choices at v and below it alone, none for the wire of v, and comes to this pair
pub record IsWideSolutionOf (p : Problem) (widths : List Width) (v : ℕ) (odd : Bool) (held : ℕ → Option ℕ)
    (x : Pair) : Type 0 where
  pub pair : IsWidePairOf p widths v odd (cells_by p held) (rows_by p held) x
  pub inside : (site b : ℕ) → held site ≡ Some b → IsSiteUnder p v site
  pub bare : held (wire_site p v) ≡ None

-- the pairs of one placement and one choice of widths
abbrev pub wide_pairs_of : Problem → List Width → List (Option ℕ) → List ℕ → PairSets
wide_pairs_of p widths cells rows u odd x = IsWidePairOf p widths u odd cells rows x

-- the solution has choices at and below these children, and for their wires, alone, and comes to this pair without a
-- cell at the node
pub record IsWideOpenSolutionOf (p : Problem) (widths : List Width) (odd : Bool) (fork : Fork) (held : ℕ → Option ℕ)
    (x : Pair) : Type 0 where
  pub pick : ℕ → Pair
  pub pair : IsWideOpenBy p widths (wide_pairs_of p widths (cells_by p held) (rows_by p held)) odd fork pick
      (chosen_at (rows_by p held)) x
  pub placement : IsPlacement p (cells_by p held)
  pub placed : IsPlaced p (cells_by p held)
  pub lawful : IsLawful p widths (rows_by p held)
  pub inside : (site b : ℕ) → held site ≡ Some b → (h : ℕ) × Contains fork.children h × IsSiteUnder p h site

-- the solution comes to what the wire of v, under one of the widths, makes of a pair there
pub record IsWideCarriedSolution (p : Problem) (widths : List Width) (v : ℕ) (odd : Bool) (held : ℕ → Option ℕ)
    (x : Pair) : Type 0 where
  pub below : ℕ → Option ℕ
  pub row : ℕ
  pub pair : Pair
  pub named : row < length widths
  pub solution : IsWideSolutionOf p widths v odd below pair
  pub carried : x ≡ carried_by p widths v row pair
  pub held_is : (site : ℕ) → held site ≡ with_row p v row below site
