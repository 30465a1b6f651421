use Rattle.split_laws.proofs.ReadLemmas.{read_stages_are_pieces}
use Rattle.split_laws.proofs.laws.read_stages_are_pieces.Goals as goal

pub returns : goal.returns
returns c = read_stages_are_pieces
