use Rattle.lib_linear.proofs.RepeaterLaws.{one_place}
use Rattle.lib_linear.proofs.repeater_laws.one_place.Goals as goal

pub returns : goal.returns
returns c = one_place
