use Rattle.std.proofs.Common.{length}
use Rattle.elmore.specs.Cells.{cell_at}
use Rattle.elmore.specs.Trees.{parent_of, resistance, capacitance}
use Rattle.elmore.proofs.PathLemmas.{below_other}
use Rattle.elmore.proofs.PlacedDelayLemmas.{delay_self, delay_below, delay_through}
use Rattle.elmore.proofs.TreeLemmas.{tree_falls}
use Rattle.elmore.proofs.laws.placed_delay_steps.Goals as goal

pub returns : goal.returns
returns c = λ tree reps cells t v. record {
  self = delay_self (parent_of tree) (tree_falls tree t) (resistance tree) (capacitance tree) (cell_at reps cells) (length tree) v;
  below = λ w over w_v.
      delay_below (parent_of tree) (tree_falls tree t) (resistance tree) (capacitance tree) (cell_at reps cells) (length tree) v w
      (below_other (parent_of tree) (tree_falls tree t) v w over w_v) w_v;
  through = λ u w v_u u_w.
      delay_through (parent_of tree) (tree_falls tree t) (resistance tree) (capacitance tree) (cell_at reps cells) (length tree) v u w v_u u_w;
}
