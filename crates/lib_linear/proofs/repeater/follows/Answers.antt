use Rattle.std.proofs.Common.{sym, ◌∙◌}
use Rattle.lib_linear.proofs.RepeaterLemmas.{follows_as}
use Rattle.lib_linear.proofs.repeater.follows.Goals as goal

pub returns : goal.returns
returns c =
    follows_as c.args.units c.args.cell.now c.args.input.now c.in_ok-output.output (sym c.output_group.ensures ∙ c.in_ok-output.was) (sym c.is_timed.ensures ∙ c.if-not-is_timed.false) c.inversion.result c.inversion.ensures
