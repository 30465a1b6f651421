use Rattle.elmore.proofs.TreeLemmas.{tree_falls}
use Rattle.cut_laws.specs.Pieces.{placed}
use Rattle.cut_laws.proofs.BuiltPieceLemmas.{piece_joined}
use Rattle.cut_laws.proofs.laws.pieces_are_joined.Goals as goal

pub returns : goal.returns
returns c = λ tree reps cells t v net loads stands p. piece_joined (placed tree reps cells) v net loads stands (tree_falls tree t) p
