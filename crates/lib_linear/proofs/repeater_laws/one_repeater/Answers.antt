use Rattle.lib_linear.proofs.RepeaterLaws.{one_repeater}
use Rattle.lib_linear.proofs.repeater_laws.one_repeater.Goals as goal

pub returns : goal.returns
returns c = one_repeater
