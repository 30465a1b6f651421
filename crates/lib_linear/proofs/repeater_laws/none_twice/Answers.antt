use Rattle.lib_linear.proofs.RepeaterLaws.{none_twice}
use Rattle.lib_linear.proofs.repeater_laws.none_twice.Goals as goal

pub returns : goal.returns
returns c = none_twice
