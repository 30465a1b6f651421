use Rattle.vg_scan.proofs.LibertyLawLemmas.{concat-liberty_pieces}
use Rattle.vg_scan.proofs.liberty_laws.liberty_texts_are_pieces.Goals as goal

pub returns : goal.returns
returns c = concat-liberty_pieces
