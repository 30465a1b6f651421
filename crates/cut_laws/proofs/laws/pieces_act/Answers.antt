use Rattle.elmore.proofs.TreeLemmas.{tree_falls}
use Rattle.cut_laws.specs.Pieces.{placed}
use Rattle.cut_laws.proofs.PieceLoadLemmas.{piece_root_load, piece_load}
use Rattle.cut_laws.proofs.PieceDelayLemmas.{piece_delay_below, piece_inverters_below}
use Rattle.cut_laws.proofs.laws.pieces_act.Goals as goal

pub returns : goal.returns
returns c = λ tree reps cells t v piece at p. record {
  root_load = piece_root_load (placed tree reps cells) v piece at (tree_falls tree t) p;
  loads = piece_load (placed tree reps cells) v piece at (tree_falls tree t) p;
  delays = piece_delay_below (placed tree reps cells) v piece at (tree_falls tree t) p;
  inverters = piece_inverters_below (placed tree reps cells) v piece at (tree_falls tree t) p;
}
