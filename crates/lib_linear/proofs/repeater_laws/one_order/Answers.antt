use Rattle.lib_linear.proofs.RepeaterLaws.{one_order}
use Rattle.lib_linear.proofs.repeater_laws.one_order.Goals as goal

pub returns : goal.returns
returns c = one_order
