use Rattle.lib_linear.proofs.RepeaterLaws.{not_over}
use Rattle.lib_linear.proofs.repeater_laws.not_over.Goals as goal

pub returns : goal.returns
returns c = not_over
