use Rattle.std.proofs.Common.{length, ◌≤◌, take}
use Rattle.std.proofs.Common.{◌-◌}
use Rattle.vg_store.specs.Writing.{Gains}
use Rattle.vg_store.proofs.output.put_all.Given as goal

abbrev pub invariant-pieces : goal.invariant-pieces
invariant-pieces g l = record {
  within : l.done ≤ length l.bytes;
  gained : Gains (g.O.Out.state l.fn.out) (g.O.Out.state l.out) (take l.done l.bytes);
  later : (g.O.Out.state l.fn.out).faults ≤ (g.O.Out.state l.out).faults;
}

abbrev pub decreases-pieces : goal.decreases-pieces
decreases-pieces g l = length l.bytes - l.done
