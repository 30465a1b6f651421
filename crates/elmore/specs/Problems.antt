-- What makes a net, with its driver, sinks, places and repeaters, a problem.
use Rattle.std.specs.Prelude.{◌≡◌, ℕ, ◌+◌, ◌*◌, ◌^◌, ◌<◌, ◌≤◌, ◌==◌, Bool, true, false, not, ◌&&◌, List, length, map, max, slice_index_or, ℤ, pos, ◌-ℤ◌, ◌≤ℤ◌, Option, Some, None, is_some, [], ◌∷◌, MatchOption}
use Rattle.std.specs.List.{list_any, AllPairs, All, count_by}
use Rattle.elmore.specs.Path.{is_over, nodes as node_numbers}
use Rattle.elmore.specs.Trees.{parent_of, total_resistance, total_capacitance}
use Rattle.elmore.specs.declared.tree.Node.{Node}
use Rattle.elmore.specs.declared.rep.Rep.{Rep}
use Rattle.elmore.specs.declared.parts.Driver.{Driver}
use Rattle.elmore.specs.declared.parts.Sink.{Sink}

-- the sink at a node, if there is one
abbrev pub sink_of : List (Option Sink) → ℕ → Option Sink
sink_of sinks v = slice_index_or sinks v None

abbrev pub is_sink : List (Option Sink) → ℕ → Bool
is_sink sinks v = is_some (sink_of sinks v)

-- a node is live where some sink is at it or below it
unfoldable pub is_live : List Node → List (Option Sink) → ℕ → Bool
is_live tree sinks v = list_any (λ w. is_sink sinks w && is_over (parent_of tree) v w) (node_numbers (length tree))

-- some sink is strictly below the node
unfoldable pub is_above_sink : List Node → List (Option Sink) → ℕ → Bool
is_above_sink tree sinks v =
    list_any (λ w. is_sink sinks w && (is_over (parent_of tree) v w && not (w == v))) (node_numbers (length tree))

-- a free node may have a cell where some sink is strictly below it
abbrev pub is_place : List Node → List (Option Sink) → List Bool → ℕ → Bool
is_place tree sinks free v = slice_index_or free v false && is_above_sink tree sinks v

abbrev pub live_nodes : List Node → List (Option Sink) → List Bool
live_nodes tree sinks = map (is_live tree sinks) (node_numbers (length tree))

abbrev pub places : List Node → List (Option Sink) → List Bool → List Bool
places tree sinks free = map (is_place tree sinks free) (node_numbers (length tree))

-- repeaters by rising resistance
abbrev pub AreRising : List Rep → Type 0
AreRising reps = AllPairs (λ a b. a.r ≤ b.r) reps

-- at most 10^23 zeptoseconds in size
pub record IsSmall (z : ℤ) : Type 0 where
  pub low : (pos 0 -ℤ pos (10 ^ 23)) ≤ℤ z
  pub high : z ≤ℤ pos (10 ^ 23)

-- a repeater's resistance (mΩ), delay (zs) and cost (thousandths); its input capacitance has a number's size
pub record IsRepWithin (rep : Rep) : Type 0 where
  pub r : rep.r ≤ 10 ^ 9
  pub k : rep.k ≤ 10 ^ 18
  pub cost : rep.cost ≤ 10 ^ 12
  pub cin : rep.cin < 2 ^ 64

pub record IsDriverWithin (driver : Driver) : Type 0 where
  pub k : IsSmall driver.k
  pub r : driver.r ≤ 10 ^ 9
  pub arrival : IsSmall driver.arrival

-- the greatest input capacitance of the repeaters; without a repeater it is 0
abbrev pub greatest_input : List Rep → ℕ
greatest_input [] = 0
greatest_input (rep ∷ reps) = max rep.cin (greatest_input reps)

-- how many places there are
abbrev pub place_count : List Bool → ℕ
place_count places = count_by (λ place. place) places

-- all that can ever be a load: the net's capacitances, and the greatest input capacitance at each place
abbrev pub greatest_load : List Node → List Bool → List Rep → ℕ
greatest_load tree places reps = total_capacitance tree + place_count places * greatest_input reps

-- within these limits nothing is too large to be computed
pub record IsProblemWithin (tree : List Node) (driver : Driver) (sinks : List (Option Sink)) (places : List Bool)
    (reps : List Rep) : Type 0 where
  pub nodes : length tree ≤ 65536
  pub resistances : total_resistance tree ≤ 10 ^ 12
  pub capacitances : greatest_load tree places reps ≤ 10 ^ 11
  pub repeaters : length reps ≤ 256
  pub each_repeater : All IsRepWithin reps
  pub drives : IsDriverWithin driver
  pub times : (v : ℕ) (sink : Sink) → sink_of sinks v ≡ Some sink → IsSmall sink.required

-- something was made, exactly where the fact holds
abbrev pub IsMadeWhere : {A : Type 0} → Option A → Type 0 → Type 0
IsMadeWhere made fact = MatchOption made (fact → ⊥) (λ _. fact)

-- only nodes that are neither the root nor a sink, and that have a sink strictly below, are places
pub record ArePlaces (tree : List Node) (sinks : List (Option Sink)) (places : List Bool) : Type 0 where
  pub one_each : length places ≡ length tree
  pub root : slice_index_or places 0 false ≡ false
  pub no_sink : (v : ℕ) → slice_index_or places v false ≡ true → is_sink sinks v ≡ false
  pub above : (v : ℕ) → slice_index_or places v false ≡ true → is_above_sink tree sinks v ≡ true
