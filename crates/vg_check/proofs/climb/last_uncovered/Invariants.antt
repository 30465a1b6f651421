use Rattle.std.proofs.Common.{◌≤◌, length}
use Rattle.vg_cert.specs.Fits.{lists_in}
use Rattle.vg_check.specs.Parts.{AreCoveredFrom, AreParts}
use Rattle.vg_check.proofs.climb.last_uncovered.Given as goal

abbrev pub invariant-nodes : goal.invariant-nodes
invariant-nodes l = record {
  within : length l.parts.items ≤ length l.fn.p.tree.nodes;
  parts : AreParts l.fn.p (lists_in l.fn.lists) (length l.parts.items) l.parts.items;
  covered : AreCoveredFrom l.fn.p (lists_in l.fn.lists) (length l.parts.items);
}

abbrev pub decreases-nodes : goal.decreases-nodes
decreases-nodes l = length l.parts.items
