use Rattle.divided_laws.proofs.DividedDelayLemmas.{keeps_wire_delays}
use Rattle.divided_laws.proofs.laws.divided_trees_keep_wire_delays.Goals as goal

pub returns : goal.returns
returns c = keeps_wire_delays
