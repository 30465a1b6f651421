-- Placements of a problem: their loads, delays, slack, polarity and cost.
-- L. P. P. P. van Ginneken, "Buffer placement in distributed RC-tree networks for minimal Elmore delay", ISCAS 1990;
-- J. Lillis, C.-K. Cheng, T.-T. Y. Lin, "Optimal wire sizing and buffer insertion for low power and a generalized
-- delay model", IEEE Journal of Solid-State Circuits 31, 1996.
use Rattle.std.specs.Prelude.{◌≡◌, ℕ, Bool, List, length, ℤ, Option, Some}
use Rattle.std.specs.List.{sum_by}
use Rattle.elmore.specs.Cells.{rep_of, cell_cost}
use Rattle.elmore.specs.Placed.{IsPlacementOf, placed_load, placed_input_load, placed_delay, placed_inverters, driven_delay, slack_left, IsLeast, placed_inverted, IsWanted, IsFirstUnwanted}
use Rattle.elmore.specs.Problems.{sink_of}
use Rattle.elmore.specs.declared.parts.Sink.{Sink}
use Rattle.elmore.specs.declared.problem.Problem.{Problem}

abbrev pub IsPlacement : Problem → List (Option ℕ) → Type 0
IsPlacement p cells = IsPlacementOf (length p.tree.nodes) (length p.reps) cells

-- the costs of all cells together
unfoldable pub cost_of : Problem → List (Option ℕ) → ℕ
cost_of p cells = sum_by (λ cell. cell_cost (rep_of p.reps cell)) cells

-- what the cell at v, or the driver at the root, has to charge
abbrev pub load_of : Problem → List (Option ℕ) → ℕ → ℕ
load_of p cells v = placed_load p.tree.nodes p.reps cells v

-- what is seen of v from above
abbrev pub input_load_of : Problem → List (Option ℕ) → ℕ → ℕ
input_load_of p cells v = placed_input_load p.tree.nodes p.reps cells v

-- the delay from v to w
abbrev pub delay_between : Problem → List (Option ℕ) → ℕ → ℕ → ℕ
delay_between p cells v w = placed_delay p.tree.nodes p.reps cells v w

abbrev pub inverters_between : Problem → List (Option ℕ) → ℕ → ℕ → ℕ
inverters_between p cells v w = placed_inverters p.tree.nodes p.reps cells v w

-- the delay from the driver's input to the node w
abbrev pub delay_to : Problem → List (Option ℕ) → ℕ → ℤ
delay_to p cells w = driven_delay p.driver p.tree.nodes p.reps cells w

abbrev pub slack_at : Problem → List (Option ℕ) → ℕ → Sink → ℤ
slack_at p cells w sink = slack_left p.driver p.tree.nodes p.reps cells w sink

-- there is this sink at the node w
abbrev pub IsSinkAt : Problem → ℕ → Sink → Type 0
IsSinkAt p w sink = sink_of p.sinks w ≡ Some sink

-- x is the least slack of all sinks
abbrev pub IsSlack : Problem → List (Option ℕ) → ℤ → Type 0
IsSlack p cells x = IsLeast p.sinks (slack_at p cells) x

-- a sink is inverted where an odd number of inverters is on its path
abbrev pub is_inverted : Problem → List (Option ℕ) → ℕ → Bool
is_inverted p cells w = placed_inverted p.tree.nodes p.reps cells w

-- the sink at w, if there is one, has the polarity that it wants
abbrev pub HasPolarity : Problem → List (Option ℕ) → ℕ → Type 0
HasPolarity p cells w = IsWanted (sink_of p.sinks w) (is_inverted p cells w)

-- w is the first sink, in tree order, of the wrong polarity
abbrev pub IsFirstWrong : Problem → List (Option ℕ) → ℕ → Type 0
IsFirstWrong p cells w = IsFirstUnwanted p.sinks (is_inverted p cells) w
