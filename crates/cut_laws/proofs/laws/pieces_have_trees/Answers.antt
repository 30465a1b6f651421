use Rattle.elmore.proofs.TreeLemmas.{tree_falls}
use Rattle.cut_laws.specs.Pieces.{placed}
use Rattle.cut_laws.proofs.SomeTreeLemmas.{some_tree}
use Rattle.cut_laws.proofs.BuiltPieceLemmas.{piece_joined}
use Rattle.cut_laws.proofs.laws.pieces_have_trees.Goals as goal

pub returns : goal.returns
returns c = λ tree reps cells t v net loads stands p.
    some_tree net.nodes net.root net.caps net.edges p.root_node (λ j j_n. (p.from_nodes j j_n, p.to_nodes j j_n))
    (piece_joined (placed tree reps cells) v net loads stands (tree_falls tree t) p)
    p.count
