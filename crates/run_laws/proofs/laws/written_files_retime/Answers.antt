use Rattle.run_laws.proofs.RetimeLemmas.{written_files_retime}
use Rattle.run_laws.proofs.laws.written_files_retime.Goals as goal

pub returns : goal.returns
returns c = written_files_retime
