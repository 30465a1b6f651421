use Rattle.lib_linear.proofs.RepeaterLaws.{one_list}
use Rattle.lib_linear.proofs.repeater_laws.one_list.Goals as goal

pub returns : goal.returns
returns c = one_list
