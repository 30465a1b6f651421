-- The pairs at a node over all placements and choices of widths, and how they come from those at the children: each
-- wire between has a width of its own.
use Rattle.std.specs.Prelude.{◌≡◌, ◌↔◌, ◌⊎◌, ℕ, ◌+◌, ◌*◌, ◌<◌, Bool, true, false, List, [], ◌∷◌, length, slice_index_or, ℤ, pos, ◌-ℤ◌, ◌≤ℤ◌, Option, None}
use Rattle.std.specs.List.{Contains, sum_by}
use Rattle.elmore.specs.Best.{IsGood, IsBest}
use Rattle.elmore.specs.Cells.{rep_of}
use Rattle.elmore.specs.Delay.{is_odd}
use Rattle.elmore.specs.Legal.{IsPlaced, MayHave}
use Rattle.elmore.specs.Pairs.{IsSinkUnder, class_of}
use Rattle.elmore.specs.Path.{is_over}
use Rattle.elmore.specs.Placements.{IsPlacement, IsSinkAt, inverters_between}
use Rattle.elmore.specs.Trees.{parent_of}
use Rattle.cand_pairs.specs.Candidates.{PairSets, NodeLists, IsLive, Fork, whole_fork, with_cell, past_cell, IsCoveredBy, of_lists, root_value, Drives, DrivesNone, IsBoundedBy, at_root}
use Rattle.elmore.specs.declared.parts.Sink.{Sink}
use Rattle.elmore.specs.declared.pair.Pair.{Pair}
use Rattle.elmore.specs.declared.problem.Problem.{Problem}
use Rattle.wire_widths.specs.Widths.{plain, AreWidths, IsLawful, IsWideGood, IsWideBest, wire_r, wire_a, wide_load_of, wide_input_load_of, wide_delay_between}
use Rattle.wire_widths.specs.declared.width.Width.{Width}

-- how late the signal may reach v for this sink
abbrev pub wide_required : Problem → List Width → List (Option ℕ) → List ℕ → ℕ → ℕ → Sink → ℤ
wide_required p widths cells chosen v w sink = sink.required -ℤ pos (wide_delay_between p widths cells chosen v w)

-- the pair of a placement and widths at v, below the wire of v: neither that wire nor what it adds counts. The
-- placement has cells only at places, and those at or below v are legal there by the loads with these widths
pub record IsWidePairOf (p : Problem) (widths : List Width) (v : ℕ) (odd : Bool) (cells : List (Option ℕ))
    (chosen : List ℕ) (x : Pair) : Type 0 where
  pub placement : IsPlacement p cells
  pub placed : IsPlaced p cells
  pub lawful : IsLawful p widths chosen
  pub fits : (u : ℕ) → is_over (parent_of p.tree.nodes) v u ≡ true
      → MayHave p u (slice_index_or cells u None) (wide_load_of p widths cells chosen u)
  pub wanted : (w : ℕ) (sink : Sink) → IsSinkUnder p v w sink
      → is_odd (class_of odd + inverters_between p cells v w) ≡ sink.inverted
  pub least : (w : ℕ) (sink : Sink) → IsSinkUnder p v w sink → x.q ≤ℤ wide_required p widths cells chosen v w sink
  pub met : (w : ℕ) × (sink : Sink) × IsSinkUnder p v w sink × (x.q ≡ wide_required p widths cells chosen v w sink)
  pub load : x.c ≡ wide_input_load_of p widths cells chosen v

abbrev pub IsWidePairAt : Problem → List Width → ℕ → Bool → Pair → Type 0
IsWidePairAt p widths v odd x =
    (cells : List (Option ℕ)) × (chosen : List ℕ) × IsWidePairOf p widths v odd cells chosen x

-- a pair through a wire of this resistance that adds this capacitance at its lower end
abbrev pub widened : ℕ → ℕ → Pair → Pair
widened r a x = record { q = x.q -ℤ pos (r * (x.c + a)); c = x.c + a }

-- a pair at u above the wire of u under row i
abbrev pub carried_by : Problem → List Width → ℕ → ℕ → Pair → Pair
carried_by p widths u i x = widened (wire_r p widths i u) (wire_a p widths i u) x

-- the pairs of a list through a wire under any of the rows
abbrev pub WideWires : Problem → List Width → ℕ → List Pair → Pair → Type 0
WideWires p widths u ys z = (i : ℕ) × (y : Pair) × (i < length widths) × Contains ys y × (z ≡ carried_by p widths u i y)

-- the pairs of a set above the wire of u, under any of the rows
abbrev pub Above : Problem → List Width → PairSets → PairSets
Above p widths In u odd z = (i : ℕ) × (x : Pair) × (i < length widths) × In u odd x × (z ≡ carried_by p widths u i x)

-- x comes from one pair of each child, through its wire under one row
pub record IsWideJoinOf (p : Problem) (widths : List Width) (fork : Fork) (pick : ℕ → Pair) (row : ℕ → ℕ)
    (x : Pair) : Type 0 where
  pub least : (u : ℕ) → Contains fork.children u → x.q ≤ℤ (carried_by p widths u (row u) (pick u)).q
  pub in_time : (sink : Sink) → IsSinkAt p fork.node sink → x.q ≤ℤ sink.required
  pub met : ((u : ℕ) × Contains fork.children u × (x.q ≡ (carried_by p widths u (row u) (pick u)).q))
      ⊎ ((sink : Sink) × IsSinkAt p fork.node sink × (x.q ≡ sink.required))
  pub load : x.c ≡ fork.own + sum_by (λ u. (carried_by p widths u (row u) (pick u)).c) fork.children

-- x comes from a choice of one pair and one row for each child, without a cell at the node; a sink there allows one
-- class only
pub record IsWideOpenBy (p : Problem) (widths : List Width) (In : PairSets) (odd : Bool) (fork : Fork)
    (pick : ℕ → Pair) (row : ℕ → ℕ) (x : Pair) : Type 0 where
  pub chosen : (u : ℕ) → Contains fork.children u → In u odd (pick u)
  pub rows : (u : ℕ) → Contains fork.children u → row u < length widths
  pub wanted : (sink : Sink) → IsSinkAt p fork.node sink → odd ≡ sink.inverted
  pub joined : IsWideJoinOf p widths fork pick row x

abbrev pub IsWideOpen : Problem → List Width → PairSets → ℕ → Bool → Pair → Type 0
IsWideOpen p widths In v odd x =
    (pick : ℕ → Pair) × (row : ℕ → ℕ) × IsWideOpenBy p widths In odd (whole_fork p v) pick row x

-- x comes from a choice of one pair and one row for each live child of v, with or without a cell at v
abbrev pub IsWideStep : Problem → List Width → PairSets → ℕ → Bool → Pair → Type 0
IsWideStep p widths In v odd x =
    (own : Option ℕ) × (y : Pair) × MayHave p v own y.c × IsWideOpen p widths In v (past_cell (rep_of p.reps own) odd) y
    × (x ≡ with_cell (rep_of p.reps own) y)

abbrev pub WidePairsStep : Type 0
WidePairsStep = (p : Problem) (widths : List Width) (v : ℕ) (odd : Bool) (x : Pair) → AreWidths widths
    → IsWidePairAt p widths v odd x ↔ IsWideStep p widths (IsWidePairAt p widths) v odd x

-- each pair that comes from the children is dominated by one of the node's
abbrev pub IsWideCover : Problem → List Width → PairSets → Type 0
IsWideCover p widths In =
    (v : ℕ) → IsLive p v → (odd : Bool) (x : Pair) → IsWideStep p widths In v odd x → IsCoveredBy (In v odd) x

-- lists that cover what comes from them cover the pairs of all placements and widths
abbrev pub WideCoverHolds : Type 0
WideCoverHolds = (p : Problem) (widths : List Width) (lists : NodeLists) → AreWidths widths
    → IsWideCover p widths (of_lists lists)
    → (v : ℕ) (odd : Bool) (x : Pair) → IsWidePairAt p widths v odd x → IsCoveredBy (Contains (lists v odd)) x

-- a placement and widths whose pair at the root the driver may charge, and is worth most of a cover's that it may, are
-- best
abbrev pub WideRootDecides : Type 0
WideRootDecides = (p : Problem) (widths : List Width) (lists : NodeLists) (cells : List (Option ℕ)) (rows : List ℕ)
    (x : Pair) → AreWidths widths
    → IsWideCover p widths (of_lists lists) → IsWidePairOf p widths 0 false cells rows x → Drives p x
    → IsBoundedBy p (at_root (of_lists lists)) (root_value p x) → IsWideBest p widths cells rows (root_value p x)

-- where a cover has no even pair at the root that the driver may charge, no placement is good with any widths
abbrev pub WideCoverExcludes : Type 0
WideCoverExcludes = (p : Problem) (widths : List Width) (lists : NodeLists) → AreWidths widths
    → IsWideCover p widths (of_lists lists) → DrivesNone p (at_root (of_lists lists))
    → (cells : List (Option ℕ)) (rows : List ℕ) → IsWideGood p widths cells rows → ⊥

-- what is good without widths is so with some; and the best slack with widths is no less than without
pub record IsNoWorseWith (p : Problem) (widths : List Width) : Type 0 where
  pub good : (cells : List (Option ℕ)) → IsGood p cells → (rows : List ℕ) × IsWideGood p widths cells rows
  pub slack : (cells others : List (Option ℕ)) (rows : List ℕ) (x y : ℤ) → IsBest p cells x
      → IsWideBest p widths others rows y → x ≤ℤ y

abbrev pub WideIsNoWorse : Type 0
WideIsNoWorse = (p : Problem) (widths : List Width) → AreWidths widths → IsNoWorseWith p widths

-- with one width alone, what is best is what is best without widths
abbrev pub PlainIsWithout : Type 0
PlainIsWithout = (p : Problem) (cells : List (Option ℕ)) (x : ℤ)
    → IsBest p cells x ↔ ((rows : List ℕ) × IsWideBest p (plain ∷ []) cells rows x)
