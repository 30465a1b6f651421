-- Nets whose loads stay within the limit with any widths.
use Rattle.std.specs.Prelude.{ℕ, ◌+◌, ◌≤◌, ◌^◌, List, [], ◌∷◌, length, max}
use Rattle.std.specs.List.{filter, sum_by}
use Rattle.elmore.specs.Path.{nodes as node_numbers}
use Rattle.elmore.specs.Problems.{is_live, greatest_load}
use Rattle.elmore.specs.Trees.{resistance}
use Rattle.elmore.specs.declared.problem.Problem.{Problem}
use Rattle.wire_widths.specs.Widths.{added_by}
use Rattle.wire_widths.specs.declared.width.Width.{Width}

-- the most that a width adds to a wire of this resistance
abbrev pub most_added : List Width → ℕ → ℕ
most_added [] r = 0
most_added (width ∷ widths) r = max (added_by width r) (most_added widths r)

-- all that can ever be a load: what can be one without widths, and what each wire to a live node adds at most
abbrev pub widest_load : Problem → List Width → ℕ
widest_load p widths =
    greatest_load p.tree.nodes p.places p.reps
    + sum_by (λ u. most_added widths (resistance p.tree.nodes u))
    (filter (is_live p.tree.nodes p.sinks) (node_numbers (length p.tree.nodes)))

-- it is within the limit of a net's capacitances
abbrev pub Fits : Problem → List Width → Type 0
Fits p widths = widest_load p widths ≤ 10 ^ 11
