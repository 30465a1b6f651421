-- Pairs at a node with what their cells cost (Lillis, Cheng and Lin 1996).
use Rattle.std.specs.Prelude.{◌≡◌, ◌↔◌, ℕ, ◌+◌, ◌≤◌, Bool, false, List, length, Option}
use Rattle.std.specs.List.{Contains, All, AllPairs, sum_by}
use Rattle.elmore.specs.Cells.{cell_at, rep_of, cell_cost}
use Rattle.elmore.specs.Frontier.{Point, IsAttained, IsFrontier, Outdoes}
use Rattle.elmore.specs.FrontierLaws.{Exceeds}
use Rattle.elmore.specs.Legal.{IsWithin, MayHave}
use Rattle.elmore.specs.Pairs.{Dominates, IsPairOf}
use Rattle.elmore.specs.Placements.{IsSinkAt}
use Rattle.elmore.specs.Trees.{parent_of}
use Rattle.elmore.specs.Wire.{downstream}
use Rattle.cand_pairs.specs.Candidates.{carried, IsJoinOf, with_cell, past_cell, Drives, root_value, whole_fork, Fork, IsLive}
use Rattle.cand_pairs.specs.Merging.{meet, raised}
use Rattle.elmore.specs.declared.rep.Rep.{Rep}
use Rattle.elmore.specs.declared.parts.Sink.{Sink}
use Rattle.elmore.specs.declared.pair.Pair.{Pair}
use Rattle.elmore.specs.declared.problem.Problem.{Problem}

pub record Priced : Type 0 where
  pub cost : ℕ
  pub pair : Pair

-- a set of them for each node and class
abbrev pub PricedSets : Type 1
PricedSets = ℕ → Bool → Priced → Type 0

-- the costs of the cells at v and below it
abbrev pub cost_below : Problem → List (Option ℕ) → ℕ → ℕ
cost_below p cells v =
    downstream (parent_of p.tree.nodes) (λ u. cell_cost (cell_at p.reps cells u)) (length p.tree.nodes) v

pub record IsPricedOf (p : Problem) (v : ℕ) (odd : Bool) (cells : List (Option ℕ)) (z : Priced) : Type 0 where
  pub pair : IsPairOf p v odd cells z.pair
  pub cost : z.cost ≡ cost_below p cells v

abbrev pub IsPricedAt : Problem → ℕ → Bool → Priced → Type 0
IsPricedAt p v odd z = (cells : List (Option ℕ)) × IsPricedOf p v odd cells z

-- y costs no more than x, and its pair dominates that of x
pub record Beats (y x : Priced) : Type 0 where
  pub cost : y.cost ≤ x.cost
  pub pair : Dominates y.pair x.pair

-- one of the set beats x
abbrev pub IsBeatenBy : (Priced → Type 0) → Priced → Type 0
IsBeatenBy In x = (y : Priced) × In y × Beats y x

-- z comes from a choice for each child, without a cell at the node
pub record IsPricedOpenBy (p : Problem) (In : PricedSets) (odd : Bool) (fork : Fork) (pick : ℕ → Priced)
    (z : Priced) : Type 0 where
  pub chosen : (u : ℕ) → Contains fork.children u → In u odd (pick u)
  pub wanted : (sink : Sink) → IsSinkAt p fork.node sink → odd ≡ sink.inverted
  pub joined : IsJoinOf p fork (λ u. (pick u).pair) z.pair
  pub cost : z.cost ≡ sum_by (λ u. (pick u).cost) fork.children

abbrev pub IsPricedOpenWith : Problem → PricedSets → Bool → Fork → Priced → Type 0
IsPricedOpenWith p In odd fork z = (pick : ℕ → Priced) × IsPricedOpenBy p In odd fork pick z

abbrev pub IsPricedOpen : Problem → PricedSets → ℕ → Bool → Priced → Type 0
IsPricedOpen p In v odd z = IsPricedOpenWith p In odd (whole_fork p v) z

-- behind a cell, if there is one, and with its cost
abbrev pub with_price : Option Rep → Priced → Priced
with_price cell y = record { cost = y.cost + cell_cost cell; pair = with_cell cell y.pair }

abbrev pub IsPricedStep : Problem → PricedSets → ℕ → Bool → Priced → Type 0
IsPricedStep p In v odd z =
    (own : Option ℕ) × (y : Priced) × MayHave p v own y.pair.c
    × IsPricedOpen p In v (past_cell (rep_of p.reps own) odd) y
    × (z ≡ with_price (rep_of p.reps own) y)

-- G is a part of S that beats it all up to the cap
pub record IsPricedPart (cap : Option ℕ) (G S : Priced → Type 0) : Type 0 where
  pub part : (z : Priced) → G z → S z
  pub covers : (x : Priced) → S x → IsWithin cap x.cost → IsBeatenBy G x

-- a pair of each of two branches with both their costs, the second through the wire of u; one with more load
abbrev pub meet_priced : Problem → ℕ → Priced → Priced → Priced
meet_priced p u x z = record { cost = x.cost + z.cost; pair = meet x.pair (carried p u z.pair) }

abbrev pub raise_priced : ℕ → Priced → Priced
raise_priced c x = record { cost = x.cost; pair = raised c x.pair }

-- those of two sets, of one set by a wire alone, of one set with more load, and with and without a cell
abbrev pub PricedMeets : Problem → ℕ → (Priced → Type 0) → (Priced → Type 0) → Priced → Type 0
PricedMeets p u G H a = (x : Priced) × (z : Priced) × G x × H z × (a ≡ meet_priced p u x z)

abbrev pub PricedFirst : Problem → ℕ → ℕ → (Priced → Type 0) → Priced → Type 0
PricedFirst p own u H a = (z : Priced) × H z × (a ≡ record { cost = z.cost; pair = raised own (carried p u z.pair) })

abbrev pub PricedRaises : ℕ → (Priced → Type 0) → Priced → Type 0
PricedRaises c G a = (x : Priced) × G x × (a ≡ raise_priced c x)

abbrev pub PricedOwns : Problem → ℕ → Bool → (Bool → Priced → Type 0) → Priced → Type 0
PricedOwns p v odd G a =
    (own : Option ℕ) × (y : Priced) × MayHave p v own y.pair.c × G (past_cell (rep_of p.reps own) odd) y
    × (a ≡ with_price (rep_of p.reps own) y)

-- what comes from the children, and costs no more than the cap, is beaten
abbrev pub IsPricedCover : Problem → Option ℕ → PricedSets → Type 0
IsPricedCover p cap In =
    (v : ℕ) → IsLive p v → (odd : Bool) (x : Priced) → IsPricedStep p In v odd x → IsWithin cap x.cost
    → IsBeatenBy (In v odd) x

-- all comes from the children
abbrev pub IsPricedSound : Problem → PricedSets → Type 0
IsPricedSound p In = (v : ℕ) → IsLive p v → (odd : Bool) (x : Priced) → In v odd x → IsPricedStep p In v odd x

-- the point of a pair at the root
abbrev pub point_of : Problem → Priced → Point
point_of p z = record { cost = z.cost; slack = root_value p z.pair }

-- it costs no more than the cap, and the driver may charge its load
pub record Counts (p : Problem) (cap : Option ℕ) (z : Priced) : Type 0 where
  pub within : IsWithin cap z.cost
  pub drives : Drives p z.pair

-- the points of the even pairs at the root that count, but those that another one outdoes
pub record ArePointsOf (p : Problem) (cap : Option ℕ) (In : PricedSets) (points : List Point) : Type 0 where
  pub rising : AllPairs Exceeds points
  pub taken : All (λ point. (z : Priced) × In 0 false z × Counts p cap z × (point ≡ point_of p z)) points
  pub covers : (z : Priced) → In 0 false z → Counts p cap z
      → (point : Point) × Contains points point × Outdoes point (point_of p z)

abbrev pub PricedStep : Type 0
PricedStep =
    (p : Problem) (v : ℕ) (odd : Bool) (z : Priced) → IsPricedAt p v odd z ↔ IsPricedStep p (IsPricedAt p) v odd z

-- lists for each node and class
abbrev pub of_priced : (ℕ → Bool → List Priced) → PricedSets
of_priced lists v odd z = Contains (lists v odd) z

-- where all lists come from the children's and cover, up to the cap, what does, the points at the root are the frontier
abbrev pub PricedFrontier : Type 0
PricedFrontier = (p : Problem) (cap : Option ℕ) (lists : ℕ → Bool → List Priced) (points : List Point)
    → IsPricedSound p (of_priced lists) → IsPricedCover p cap (of_priced lists)
    → ArePointsOf p cap (of_priced lists) points
    → IsFrontier (IsAttained p cap) points
