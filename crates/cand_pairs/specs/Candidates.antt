-- How the pairs at a node come from pairs at its children, and sets of pairs that cover them (van Ginneken 1990; a set
-- for each polarity: Lillis, Cheng and Lin 1996). A set of pairs for each node and class says for which signals its
-- pairs are.
use Rattle.std.specs.Prelude.{◌≡◌, ◌⊎◌, ℕ, ◌+◌, ◌*◌, Bool, true, false, not, cond, List, ℤ, pos, ◌-ℤ◌, ◌≤ℤ◌, Option, Some, None}
use Rattle.std.specs.List.{Contains, filter, sum_by}
use Rattle.elmore.specs.Cells.{rep_of}
use Rattle.elmore.specs.Laws.{children_of}
use Rattle.elmore.specs.Legal.{IsWithin, MayHave}
use Rattle.elmore.specs.Pairs.{Dominates, IsPairAt, IsUndominated}
use Rattle.elmore.specs.Placements.{IsSinkAt}
use Rattle.elmore.specs.Problems.{is_live}
use Rattle.elmore.specs.Trees.{resistance, capacitance}
use Rattle.elmore.specs.Wire.{downstream_in}
use Rattle.elmore.specs.declared.rep.Rep.{Rep}
use Rattle.elmore.specs.declared.parts.Sink.{Sink}
use Rattle.elmore.specs.declared.pair.Pair.{Pair}
use Rattle.elmore.specs.declared.problem.Problem.{Problem}

-- for each node and class a set of pairs, and a list of them
abbrev pub PairSets : Type 1
PairSets = ℕ → Bool → Pair → Type 0

abbrev pub NodeLists : Type 0
NodeLists = ℕ → Bool → List Pair

-- the pairs of the lists
abbrev pub of_lists : NodeLists → PairSets
of_lists lists v odd x = Contains (lists v odd) x

-- a sink is at the node or below it
abbrev pub IsLive : Problem → ℕ → Type 0
IsLive p v = is_live p.tree.nodes p.sinks v ≡ true

-- the children with a sink at or below them, and the others
abbrev pub live_children : Problem → ℕ → List ℕ
live_children p v = filter (λ u. is_live p.tree.nodes p.sinks u) (children_of p.tree.nodes v)

abbrev pub dead_children : Problem → ℕ → List ℕ
dead_children p v = filter (λ u. not (is_live p.tree.nodes p.sinks u)) (children_of p.tree.nodes v)

-- the capacitance of a node, and of all nodes below it by way of children without a sink
abbrev pub own_capacitance : Problem → ℕ → ℕ
own_capacitance p v = capacitance p.tree.nodes v + sum_by (downstream_in p.tree.nodes) (dead_children p v)

-- a pair seen through a wire of this resistance
abbrev pub wired : ℕ → Pair → Pair
wired r x = record { q = x.q -ℤ pos (r * x.c); c = x.c }

-- a pair at u as it is above the wire of u
abbrev pub carried : Problem → ℕ → Pair → Pair
carried p u x = wired (resistance p.tree.nodes u) x

-- a node with some of its children, and what else of capacitance is there: its own, and that of branches that were left
-- out
pub record Fork : Type 0 where
  pub node : ℕ
  pub own : ℕ
  pub children : List ℕ

abbrev pub fork_of : ℕ → ℕ → List ℕ → Fork
fork_of v own children = record { node = v; own = own; children = children }

-- a node with all its live children
abbrev pub whole_fork : Problem → ℕ → Fork
whole_fork p v = fork_of v (own_capacitance p v) (live_children p v)

-- x comes from one pair of each child: its time is the least of theirs, carried to the node, and of what a sink there
-- requires; its load is the capacitance of the fork and all of theirs
pub record IsJoinOf (p : Problem) (fork : Fork) (pick : ℕ → Pair) (x : Pair) : Type 0 where
  pub least : (u : ℕ) → Contains fork.children u → x.q ≤ℤ (carried p u (pick u)).q
  pub in_time : (sink : Sink) → IsSinkAt p fork.node sink → x.q ≤ℤ sink.required
  pub met : ((u : ℕ) × Contains fork.children u × (x.q ≡ (carried p u (pick u)).q))
      ⊎ ((sink : Sink) × IsSinkAt p fork.node sink × (x.q ≡ sink.required))
  pub load : x.c ≡ fork.own + sum_by (λ u. (pick u).c) fork.children

-- x comes from a choice of one pair for each child, without a cell at the node; a sink there allows one class only
pub record IsOpenBy (p : Problem) (In : PairSets) (odd : Bool) (fork : Fork) (pick : ℕ → Pair) (x : Pair) : Type 0 where
  pub chosen : (u : ℕ) → Contains fork.children u → In u odd (pick u)
  pub wanted : (sink : Sink) → IsSinkAt p fork.node sink → odd ≡ sink.inverted
  pub joined : IsJoinOf p fork pick x

abbrev pub IsOpenWith : Problem → PairSets → Bool → Fork → Pair → Type 0
IsOpenWith p In odd fork x = (pick : ℕ → Pair) × IsOpenBy p In odd fork pick x

-- the same of all live children
abbrev pub IsOpen : Problem → PairSets → ℕ → Bool → Pair → Type 0
IsOpen p In v odd x = IsOpenWith p In odd (whole_fork p v) x

-- a pair below a cell, if there is one, as it is above the cell
abbrev pub with_cell : Option Rep → Pair → Pair
with_cell None y = y
with_cell (Some rep) y = record { q = y.q -ℤ pos (rep.k + rep.r * y.c); c = rep.cin }

-- the class of the signal behind a cell, if there is one, that is reached in a class
abbrev pub past_cell : Option Rep → Bool → Bool
past_cell None odd = odd
past_cell (Some rep) odd = cond rep.inverts (not odd) odd

-- x comes from a choice of one pair for each live child of v, with or without a cell at v
abbrev pub IsStep : Problem → PairSets → ℕ → Bool → Pair → Type 0
IsStep p In v odd x =
    (own : Option ℕ) × (y : Pair) × MayHave p v own y.c × IsOpen p In v (past_cell (rep_of p.reps own) odd) y
    × (x ≡ with_cell (rep_of p.reps own) y)

-- a pair of the set dominates x
abbrev pub IsCoveredBy : (Pair → Type 0) → Pair → Type 0
IsCoveredBy In x = (y : Pair) × In y × Dominates y x

-- each pair that comes from the children of v is dominated by one of v
abbrev pub IsCoveredAt : Problem → PairSets → ℕ → Type 0
IsCoveredAt p In v = (odd : Bool) (x : Pair) → IsStep p In v odd x → IsCoveredBy (In v odd) x

abbrev pub IsCover : Problem → PairSets → Type 0
IsCover p In = (v : ℕ) → IsLive p v → IsCoveredAt p In v

-- each list of a live node is the undominated list of a set; of the pairs that come from the lists of the children; of
-- the pairs of all placements
abbrev pub AreUndominated : Problem → PairSets → NodeLists → Type 0
AreUndominated p In lists = (v : ℕ) → IsLive p v → (odd : Bool) → IsUndominated (In v odd) (lists v odd)

abbrev pub AreStepLists : Problem → NodeLists → Type 0
AreStepLists p lists = AreUndominated p (IsStep p (of_lists lists)) lists

abbrev pub AreExact : Problem → NodeLists → Type 0
AreExact p lists = AreUndominated p (IsPairAt p) lists

-- the slack that the driver makes of a pair at the root
abbrev pub root_value : Problem → Pair → ℤ
root_value p x = x.q -ℤ p.driver.k -ℤ pos (p.driver.r * x.c) -ℤ p.driver.arrival

-- the driver may charge the load of the pair
abbrev pub Drives : Problem → Pair → Type 0
Drives p x = IsWithin p.driver.limit x.c

-- no pair of the set is one that the driver may charge, or none of them is worth more
abbrev pub DrivesNone : Problem → (Pair → Type 0) → Type 0
DrivesNone p In = (x : Pair) → In x → Drives p x → ⊥

abbrev pub IsBoundedBy : Problem → (Pair → Type 0) → ℤ → Type 0
IsBoundedBy p In most = (x : Pair) → In x → Drives p x → root_value p x ≤ℤ most

-- a signal comes to the root as the driver gives it, so its class is even
abbrev pub at_root : PairSets → Pair → Type 0
at_root In x = In 0 false x
