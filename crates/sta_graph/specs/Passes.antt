-- The two passes over the leads: times that grow by each lead that was taken.
use Rattle.std.specs.Prelude.{◌≡◌, ℕ, ◌+◌, ◌*◌, ◌^◌, ◌<◌, ◌≤◌, ◌⊎◌, List, length, slice_index, slice_index_or, slice_set, ℤ, pos, ◌+ℤ◌, ◌-ℤ◌, ◌≤ℤ◌, Option, Some, None}
use Rattle.sta_graph.specs.declared.graph.Graph.{Graph}
use Rattle.sta_graph.specs.Paths.{net_count, owner, delay_of, required_of, arrival_of, from_of, to_of, lead_delay, IsStart, IsEnd, IsTrail, delay_along}

-- b times 10^24 bounds the time
pub record IsWithin (b : ℕ) (z : ℤ) : Type 0 where
  pub low : (pos 0 -ℤ pos (b * 10 ^ 24)) ≤ℤ z
  pub high : z ≤ℤ pos (b * 10 ^ 24)

-- few enough leads and small enough times that no sum along a path passes an i128
pub record IsSmall (g : Graph) : Type 0 where
  pub nets : length g.arrivals ≤ 2 ^ 30
  pub sinks : length g.sinks ≤ 2 ^ 30
  pub leads : length g.leads ≤ 2 ^ 30
  pub arrivals : (v : ℕ) → v < length g.arrivals → IsWithin 1 (arrival_of g v)
  pub delays : (j : ℕ) → j < length g.sinks → IsWithin 1 (delay_of g j)
  pub required : (j : ℕ) → j < length g.sinks → IsWithin 1 (required_of g j)

abbrev pub time_at : List (Option ℤ) → ℕ → Option ℤ
time_at times v = slice_index_or times v None

-- a path's beginning arrives at net v at this time
pub record IsArrival (g : Graph) (v : ℕ) (a : ℤ) : Type 0 where
  pub start : ℕ
  pub trail : List ℕ
  pub starts : IsStart g start
  pub leads : IsTrail g start trail v
  pub attained : a ≡ arrival_of g start +ℤ delay_along g trail

-- a path's end from net v on requires this time
pub record IsDeadline (g : Graph) (v : ℕ) (r : ℤ) : Type 0 where
  pub last : ℕ
  pub trail : List ℕ
  pub ends : IsEnd g last
  pub leads : IsTrail g v trail (owner g last)
  pub attained : r ≡ required_of g last -ℤ (delay_along g trail +ℤ delay_of g last)

-- the later of a time that may be held and another
pub record IsLater (held : Option ℤ) (time x : ℤ) : Type 0 where
  pub reaches : time ≤ℤ x
  pub keeps : (t : ℤ) → held ≡ Some t → t ≤ℤ x
  pub one : (x ≡ time) ⊎ (held ≡ Some x)

pub record IsEarlier (held : Option ℤ) (time x : ℤ) : Type 0 where
  pub reaches : x ≤ℤ time
  pub keeps : (t : ℤ) → held ≡ Some t → x ≤ℤ t
  pub one : (x ≡ time) ⊎ (held ≡ Some x)

-- lead i has its effect on the times of its two nets
pub record IsTaken (g : Graph) (times : List (Option ℤ)) (i : ℕ) : Type 0 where
  pub from : ℤ
  pub to : ℤ
  pub at_from : time_at times (from_of g i) ≡ Some from
  pub at_to : time_at times (to_of g i) ≡ Some to
  pub apart : (from +ℤ lead_delay g i) ≤ℤ to

-- the time of lead i's first net is carried on to its second
pub record IsCarriedOn (g : Graph) (i : ℕ) (before after : List (Option ℤ)) : Type 0 where
  pub from : ℤ
  pub later : ℤ
  pub at_from : time_at before (from_of g i) ≡ Some from
  pub is_later : IsLater (time_at before (to_of g i)) (from +ℤ lead_delay g i) later
  pub changed : after ≡ slice_set before (to_of g i) (Some later)

-- and the time of its second net back to its first
pub record IsCarriedBack (g : Graph) (i : ℕ) (before after : List (Option ℤ)) : Type 0 where
  pub to : ℤ
  pub earlier : ℤ
  pub at_to : time_at before (to_of g i) ≡ Some to
  pub is_earlier : IsEarlier (time_at before (from_of g i)) (to -ℤ lead_delay g i) earlier
  pub changed : after ≡ slice_set before (from_of g i) (Some earlier)

-- the first p leads of the order were carried on
pub record IsForward (g : Graph) (order : List ℕ) (p : ℕ) (times : List (Option ℤ)) : Type 0 where
  pub count : length times ≡ net_count g
  pub attained : (v : ℕ) (a : ℤ) → time_at times v ≡ Some a → IsArrival g v a
  pub bounded : (v : ℕ) (a : ℤ) → time_at times v ≡ Some a → IsWithin (p + 1) a
  pub started : (v : ℕ) → IsStart g v → time_at times v ≡ Some (arrival_of g v)
  pub waiting : (v : ℕ) → v < net_count g → time_at times v ≡ None → (i : ℕ) × (i < length g.leads) × (to_of g i ≡ v)
  pub taken : (k : ℕ) → k < p → k < length order → IsTaken g times (slice_index order k)

-- an endpoint of net v has its effect
pub record IsHeld (g : Graph) (times : List (Option ℤ)) (j : ℕ) : Type 0 where
  pub time : ℤ
  pub at : time_at times (owner g j) ≡ Some time
  pub in_time : time ≤ℤ (required_of g j -ℤ delay_of g j)

-- all but the first p leads of the order were carried back; b bounds how many
pub record IsBackward (g : Graph) (order : List ℕ) (p b : ℕ) (times : List (Option ℤ)) : Type 0 where
  pub count : length times ≡ net_count g
  pub attained : (v : ℕ) (r : ℤ) → time_at times v ≡ Some r → IsDeadline g v r
  pub bounded : (v : ℕ) (r : ℤ) → time_at times v ≡ Some r → IsWithin b r
  pub ended : (j : ℕ) → IsEnd g j → IsHeld g times j
  pub waiting : (v : ℕ) → v < net_count g → time_at times v ≡ None → (i : ℕ) × (i < length g.leads) × (from_of g i ≡ v)
  pub taken : (k : ℕ) → p ≤ k → k < length order → IsTaken g times (slice_index order k)
