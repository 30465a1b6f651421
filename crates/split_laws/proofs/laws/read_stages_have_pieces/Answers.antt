use Rattle.split_laws.proofs.ReadPieceLemmas.{read_stages_have_pieces}
use Rattle.split_laws.proofs.laws.read_stages_have_pieces.Goals as goal

pub returns : goal.returns
returns c = read_stages_have_pieces
