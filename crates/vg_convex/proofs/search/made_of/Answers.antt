use Rattle.std.proofs.Common.{rules, ◌∙◌}
use Rattle.std.specs.Int.{w128}
use mir.Val.{SFits}
use Rattle.std.proofs.lemmas.Int.{to_z-of_z}
use Rattle.vg_convex.proofs.search.made_of.Goals as goal

pub time_before-time-requires-clause-low : goal.time_before-time-requires-clause-low
time_before-time-requires-clause-low c =
    let fits : SFits w128 c.args.point.q = search rules in
    rw (to_z-of_z w128 c.args.point.q fits) c.requires.low

pub time_before-time-requires-clause-high : goal.time_before-time-requires-clause-high
time_before-time-requires-clause-high c =
    let fits : SFits w128 c.args.point.q = search rules in
    rw (to_z-of_z w128 c.args.point.q fits) c.requires.high

pub returns-clause-time : goal.returns-clause-time
returns-clause-time c =
    let fits : SFits w128 c.time_before-time.result = search rules in
    let fits_q : SFits w128 c.args.point.q = search rules in
    to_z-of_z w128 c.time_before-time.result fits ∙ (rw (to_z-of_z w128 c.args.point.q fits_q) at c.time_before-time.ensures)
