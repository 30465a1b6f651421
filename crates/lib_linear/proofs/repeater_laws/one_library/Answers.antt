use Rattle.lib_linear.proofs.RepeaterLaws.{one_library}
use Rattle.lib_linear.proofs.repeater_laws.one_library.Goals as goal

pub returns : goal.returns
returns c = one_library
