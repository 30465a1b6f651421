use Rattle.split_laws.proofs.StagePieceLemmas.{stage_nets_are_pieces}
use Rattle.split_laws.proofs.laws.stage_nets_are_pieces.Goals as goal

pub returns : goal.returns
returns c = stage_nets_are_pieces
