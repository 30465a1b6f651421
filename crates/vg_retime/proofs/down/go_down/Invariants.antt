use Rattle.std.proofs.Common.{◌≡◌, ◌-◌, length}
use Rattle.vg_retime.specs.Steps.{IsUnderWay}
use Rattle.vg_retime.proofs.down.go_down.Given as goal

abbrev pub invariant-signal : goal.invariant-signal
invariant-signal l = record {
  way : IsUnderWay l.design l.prefix l.at l.walk;
  first : l.walk.first ≡ l.fn.first;
}

abbrev pub decreases-signal : goal.decreases-signal
decreases-signal l = length l.design.netlist.nets - l.at
