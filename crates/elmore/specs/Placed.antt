-- Trees with cells: their loads, delays, slack and polarity, by their parts: a driver, nodes, repeaters, sinks and
-- cells.
use Rattle.std.specs.Prelude.{◌≡◌, ℕ, ◌+◌, ◌*◌, ◌<◌, Bool, List, length, slice_index_or, ℤ, pos, ◌+ℤ◌, ◌-ℤ◌, ◌≤ℤ◌, Option, Some, None}
use Rattle.elmore.specs.Cells.{cell_at}
use Rattle.elmore.specs.Stage.{load, input_load}
use Rattle.elmore.specs.Delay.{delay_from, inverters_from, is_odd}
use Rattle.elmore.specs.Problems.{sink_of}
use Rattle.elmore.specs.Trees.{parent_of, resistance, capacitance}
use Rattle.elmore.specs.declared.parts.Driver.{Driver}
use Rattle.elmore.specs.declared.parts.Sink.{Sink}
use Rattle.elmore.specs.declared.tree.Node.{Node}
use Rattle.elmore.specs.declared.rep.Rep.{Rep}

-- one element for each of n nodes, each of them nothing or the number of one of the repeaters
pub record IsPlacementOf (n reps : ℕ) (cells : List (Option ℕ)) : Type 0 where
  pub one_each : length cells ≡ n
  pub named : (v b : ℕ) → slice_index_or cells v None ≡ Some b → b < reps

-- what the cell at v, or the driver at the root, has to charge
abbrev pub placed_load : List Node → List Rep → List (Option ℕ) → ℕ → ℕ
placed_load tree reps cells v = load (parent_of tree) (capacitance tree) (cell_at reps cells) (length tree) v

-- what is seen of v from above
abbrev pub placed_input_load : List Node → List Rep → List (Option ℕ) → ℕ → ℕ
placed_input_load tree reps cells v =
    input_load (parent_of tree) (capacitance tree) (cell_at reps cells) (length tree) v

-- the delay from v to w
abbrev pub placed_delay : List Node → List Rep → List (Option ℕ) → ℕ → ℕ → ℕ
placed_delay tree reps cells v w =
    delay_from (parent_of tree) (resistance tree) (capacitance tree) (cell_at reps cells) (length tree) v w

abbrev pub placed_inverters : List Node → List Rep → List (Option ℕ) → ℕ → ℕ → ℕ
placed_inverters tree reps cells v w = inverters_from (parent_of tree) (cell_at reps cells) v w

-- the delay from the driver's input to the node w
abbrev pub driven_delay : Driver → List Node → List Rep → List (Option ℕ) → ℕ → ℤ
driven_delay driver tree reps cells w =
    driver.k +ℤ pos (driver.r * placed_load tree reps cells 0 + placed_delay tree reps cells 0 w)

-- what a sink at w has left: its required time, less the arrival at the driver and the delay
abbrev pub slack_left : Driver → List Node → List Rep → List (Option ℕ) → ℕ → Sink → ℤ
slack_left driver tree reps cells w sink = sink.required -ℤ driver.arrival -ℤ driven_delay driver tree reps cells w

-- x is the least of what the sinks have left
pub record IsLeast (sinks : List (Option Sink)) (left : ℕ → Sink → ℤ) (x : ℤ) : Type 0 where
  pub least : (w : ℕ) (sink : Sink) → sink_of sinks w ≡ Some sink → x ≤ℤ left w sink
  pub met : (w : ℕ) × (sink : Sink) × (sink_of sinks w ≡ Some sink) × (x ≡ left w sink)

-- a sink at w is inverted where an odd number of inverters is on its path
abbrev pub placed_inverted : List Node → List Rep → List (Option ℕ) → ℕ → Bool
placed_inverted tree reps cells w = is_odd (placed_inverters tree reps cells 0 w)

-- the sink, if there is one, is inverted just where it wants to be
abbrev pub IsWanted : Option Sink → Bool → Type 0
IsWanted at inverted = (sink : Sink) → at ≡ Some sink → inverted ≡ sink.inverted

-- each sink is
abbrev pub AreWanted : List (Option Sink) → (ℕ → Bool) → Type 0
AreWanted sinks inverted = (w : ℕ) → IsWanted (sink_of sinks w) (inverted w)

-- the sink is there, and has the other polarity
abbrev pub IsUnwanted : Option Sink → Bool → Type 0
IsUnwanted at inverted = (sink : Sink) × (at ≡ Some sink) × (inverted ≡ sink.inverted → ⊥)

-- w is the first node, in tree order, whose sink has the wrong polarity
pub record IsFirstUnwanted (sinks : List (Option Sink)) (inverted : ℕ → Bool) (w : ℕ) : Type 0 where
  pub wrong : IsUnwanted (sink_of sinks w) (inverted w)
  pub before : (v : ℕ) → v < w → IsWanted (sink_of sinks v) (inverted v)
