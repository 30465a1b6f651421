use Rattle.std.proofs.Common.{ap}
use Rattle.spef_file.specs.Views.{heads_in}
use Rattle.spef_file.proofs.FileLemmas.{start_is}
use Rattle.spef_file.proofs.read.start.Goals as goal

pub returns-clause-state_of : goal.returns-clause-state_of
returns-clause-state_of c = start_is _ _ _ _ _ c.new.ensures (ap heads_in c.new-2.ensures)
