use Rattle.cut_laws.specs.Pieces.{placed}
use Rattle.cut_laws.proofs.RenumberedLemmas.{renumbered}
use Rattle.cut_laws.proofs.laws.renumbered_pieces.Goals as goal

pub returns : goal.returns
returns c = λ tree reps cells. renumbered (placed tree reps cells)
