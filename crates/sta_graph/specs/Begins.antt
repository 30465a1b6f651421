-- What the passes begin with: the nets to which no sink leads, and the sinks that lead nowhere.
use Rattle.std.specs.Prelude.{◌≡◌, ℕ, ◌<◌, ◌⊎◌, Bool, true, false, ◌+◌, ◌^◌, List, length, slice_index_or, slice_set, ℤ, pos, ◌-ℤ◌, ◌≤ℤ◌, ◌<ℤ◌, Option, Some, None}
use Rattle.sta_graph.specs.declared.graph.Graph.{Graph}
use Rattle.sta_graph.specs.declared.slacks.End.{End}
use Rattle.sta_graph.specs.Paths.{net_count, owner, delay_of, required_of, arrival_of, to_of, lead_sink}
use Rattle.sta_graph.specs.Passes.{time_at, IsDeadline, IsWithin, IsHeld, IsEarlier}

abbrev pub is_marked : List Bool → ℕ → Bool
is_marked marks v = slice_index_or marks v false

-- marked are the values of f below m
pub record AreMarked (n m : ℕ) (f : ℕ → ℕ) (marks : List Bool) : Type 0 where
  pub one_each : length marks ≡ n
  pub set : (i : ℕ) → i < m → is_marked marks (f i) ≡ true
  pub only : (v : ℕ) → is_marked marks v ≡ true → (i : ℕ) × (i < m) × (f i ≡ v)

-- marked are the nets to which a sink leads
abbrev pub AreLedNets : Graph → List Bool → Type 0
AreLedNets g marks = AreMarked (net_count g) (length g.leads) (to_of g) marks

-- marked are the sinks that lead to a net
abbrev pub AreLeadingSinks : Graph → List Bool → Type 0
AreLeadingSinks g marks = AreMarked (length g.sinks) (length g.leads) (lead_sink g) marks

-- of the nets before n the starts have their arrivals
pub record AreStarts (g : Graph) (led : List Bool) (n : ℕ) (times : List (Option ℤ)) : Type 0 where
  pub count : length times ≡ net_count g
  pub started : (v : ℕ) → v < n → is_marked led v ≡ false → time_at times v ≡ Some (arrival_of g v)
  pub only : (v : ℕ) (a : ℤ) → time_at times v ≡ Some a → (v < n) × (is_marked led v ≡ false) × (a ≡ arrival_of g v)

-- of the sinks before n the endpoints have their effect
pub record AreEnds (g : Graph) (leading : List Bool) (n : ℕ) (times : List (Option ℤ)) : Type 0 where
  pub count : length times ≡ net_count g
  pub attained : (v : ℕ) (r : ℤ) → time_at times v ≡ Some r → IsDeadline g v r
  pub bounded : (v : ℕ) (r : ℤ) → time_at times v ≡ Some r → IsWithin 2 r
  pub ended : (j : ℕ) → j < n → is_marked leading j ≡ false → IsHeld g times j

-- the least slack of the paths to the sink j, at whose net this is the latest arrival
abbrev pub end_slack : Graph → ℕ → ℤ → ℤ
end_slack g j a = (required_of g j -ℤ delay_of g j) -ℤ a

-- of the endpoints before n this one has the least slack, and is the first that has it
pub record IsWorstEnd (g : Graph) (leading : List Bool) (times : List (Option ℤ)) (n : ℕ) (end : End) : Type 0 where
  pub before : end.sink < n
  pub ends : is_marked leading end.sink ≡ false
  pub time : ℤ
  pub at : time_at times (owner g end.sink) ≡ Some time
  pub slack_is : end.slack ≡ end_slack g end.sink time
  pub least : (j : ℕ) (a : ℤ) → j < n → is_marked leading j ≡ false → time_at times (owner g j) ≡ Some a
      → end.slack ≤ℤ end_slack g j a
  pub first : (j : ℕ) (a : ℤ) → j < end.sink → is_marked leading j ≡ false → time_at times (owner g j) ≡ Some a
      → end.slack <ℤ end_slack g j a

-- the endpoint j takes effect
pub record IsEnded (g : Graph) (j : ℕ) (before after : List (Option ℤ)) : Type 0 where
  pub time : ℤ
  pub is_earlier : IsEarlier (time_at before (owner g j)) (required_of g j -ℤ delay_of g j) time
  pub changed : after ≡ slice_set before (owner g j) (Some time)

-- a time is held, within the bound of the sums along a path
pub record IsHeldWithin (held : Option ℤ) : Type 0 where
  pub time : ℤ
  pub is : held ≡ Some time
  pub within : IsWithin (2 ^ 30 + 2) time

-- for each net before n the required time less the arrival
pub record AreDifferences (arrivals required : List (Option ℤ)) (n : ℕ) (slacks : List ℤ) : Type 0 where
  pub count : length slacks ≡ n
  pub each : (v : ℕ) (a r : ℤ) → v < n → time_at arrivals v ≡ Some a → time_at required v ≡ Some r
      → slice_index_or slacks v (pos 0) ≡ r -ℤ a

-- the end that is held, or this sink where its slack is less
pub record IsWorse (held : Option End) (sink : ℕ) (slack : ℤ) (end : End) : Type 0 where
  pub none : held ≡ None → end ≡ record { sink = sink; slack = slack }
  pub some : (best : End) → held ≡ Some best
      → ((end ≡ best) × (best.slack ≤ℤ slack)) ⊎ ((end ≡ record { sink = sink; slack = slack }) × (slack <ℤ best.slack))

-- x is the least slack of the paths to the sink j
pub record IsSlackTo (g : Graph) (times : List (Option ℤ)) (j : ℕ) (x : ℤ) : Type 0 where
  pub time : ℤ
  pub at : time_at times (owner g j) ≡ Some time
  pub is : x ≡ end_slack g j time

-- the worst of the endpoints before n, if there is one
abbrev pub IsWorstSo : Graph → List Bool → List (Option ℤ) → ℕ → Option End → Type 0
IsWorstSo g leading times n None = (j : ℕ) → j < n → is_marked leading j ≡ true
IsWorstSo g leading times n (Some end) = IsWorstEnd g leading times n end
