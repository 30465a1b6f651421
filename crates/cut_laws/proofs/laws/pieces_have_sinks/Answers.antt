use Rattle.cut_laws.proofs.PieceSinkLemmas.{piece_sinks}
use Rattle.cut_laws.proofs.laws.pieces_have_sinks.Goals as goal

pub returns : goal.returns
returns c = piece_sinks
