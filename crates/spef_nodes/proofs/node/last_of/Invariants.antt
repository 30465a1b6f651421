use Rattle.std.proofs.Common.{◌≡◌, ◌≤◌, length}
use Rattle.vg_scan.specs.Names.{last_bare}
use Rattle.spef_nodes.proofs.node.last_of.Given as goal

abbrev pub invariant-back : goal.invariant-back
invariant-back l = record {
  within : l.end ≤ length l.text;
  left : last_bare l.byte l.text (length l.text) ≡ last_bare l.byte l.text l.end;
}

abbrev pub decreases-back : goal.decreases-back
decreases-back l = l.end
