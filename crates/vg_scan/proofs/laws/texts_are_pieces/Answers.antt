use Rattle.vg_scan.proofs.PieceLemmas.{concat-pieces}
use Rattle.vg_scan.proofs.laws.texts_are_pieces.Goals as goal

pub returns : goal.returns
returns c = concat-pieces
