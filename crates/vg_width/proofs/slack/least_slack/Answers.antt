use Rattle.std.proofs.Common.{rules, ◌∙◌, ap, arith, to_z, SFits}
use Rattle.std.proofs.lemmas.Int.{ints, to_z-of_z}
use Rattle.std.specs.Int.{int_min}
use mir.Syntax.{w128}
use Rattle.elmore.specs.Problems.{IsSmall}
use Rattle.elmore.proofs.FitLemmas.{whole}
use Rattle.elmore.proofs.LeastLemmas.{least_none, least_some, least_end, within_sinks}
use Rattle.vg_width.proofs.slack.least_slack.Goals.{in-Some, in_default}
use Rattle.vg_width.proofs.slack.least_slack.Goals as goal

pub time_left-requires-clause-required : goal.time_left-requires-clause-required
time_left-requires-clause-required c =
    let small : IsSmall c.in-Some.sink.required = c.requires.times c.sinks.v c.in-Some.sink c.in-Some.is in
    rw (whole c.in-Some.sink.required (omega (arith, ints, small.low)) (omega (arith, ints, small.high))) small

pub sinks-preserved : goal.sinks-preserved
sinks-preserved c = elim c.match-sinks-v.branch [
  | in-Some w ↦
      let small : IsSmall w.in-Some.sink.required = c.requires.times c.sinks.v w.in-Some.sink w.in-Some.is in
      let left_fits : SFits w128 w.time_left.result = search rules in
      let min_fits : SFits w128 w.min-least.result = search rules in
      least_some _ _ c.sinks.v _ w.time_left.result _ w.in-Some.sink w.in-Some.is
      (rw (whole w.in-Some.sink.required (omega (arith, ints, small.low)) (omega (arith, ints, small.high))) at w.time_left.ensures)
      (w.least-is ∙ to_z-of_z w128 _ min_fits ∙ w.min-least.ensures.value ∙ ap (int_min (to_z w128 c.sinks.least-bits)) (to_z-of_z w128 _ left_fits))
      c.sinks.invariant
  | in_default w ↦ rw w.least-is (least_none _ _ c.sinks.v _ w.in_default.is c.sinks.invariant)
]

pub returns : goal.returns
returns c =
    least_end _ _ c.sinks.v _ (omega arith) c.requires.some_sink
    (λ w sink here.
    omega (arith, ints, c.requires.times w sink here, c.requires.delays w, within_sinks c.args.sinks.now w sink here))
    (rw (whole c.args.start (omega (arith, ints)) (omega (arith, ints))) at c.sinks.invariant)
