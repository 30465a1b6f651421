use Rattle.cut_laws.proofs.BarePieceLemmas.{bare_piece}
use Rattle.cut_laws.proofs.laws.bare_is_one_piece.Goals as goal

pub returns : goal.returns
returns c = bare_piece
