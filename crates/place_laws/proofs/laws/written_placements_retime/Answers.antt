use Rattle.place_laws.proofs.RetimeLemmas.{written_placements_retime}
use Rattle.place_laws.proofs.laws.written_placements_retime.Goals as goal

pub returns : goal.returns
returns c = written_placements_retime
