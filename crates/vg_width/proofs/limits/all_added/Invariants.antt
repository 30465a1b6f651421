use Rattle.std.proofs.Common.{◌≡◌, ◌≤◌, ◌*◌, ◌^◌, cond}
use Rattle.std.specs.List.{sum_by}
use Rattle.elmore.specs.Path.{nodes}
use Rattle.elmore.specs.Steps.{marked}
use Rattle.elmore.specs.Trees.{resistance}
use Rattle.wire_widths.specs.Fits.{most_added}
use Rattle.vg_width.proofs.limits.all_added.Given as goal

abbrev pub invariant-nodes : goal.invariant-nodes
invariant-nodes l = record {
  sum_is : sum_by (λ u. cond (marked l.live u) (most_added l.widths (resistance l.nodes u)) 0) (nodes l.v) ≡ l.sum;
  small : l.sum ≤ l.v * 2 ^ 64;
}
