use Rattle.cut_laws.specs.Pieces.{placed}
use Rattle.cut_laws.proofs.BuiltPieceLemmas.{built_piece}
use Rattle.cut_laws.proofs.laws.built_pieces.Goals as goal

pub returns : goal.returns
returns c = λ tree reps cells t. built_piece (placed tree reps cells)
