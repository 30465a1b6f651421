use Rattle.std.proofs.Common.{◌≡◌, ◌≤◌, ◌*◌, ◌^◌, take, length}
use Rattle.std.specs.List.{sum_by}
use Rattle.ver_net.proofs.rows.pin_count.Given as goal

abbrev pub invariant-instance : goal.invariant-instance
invariant-instance l = (l.count ≡ sum_by (λ i. length i.pins) (take l.at l.netlist.instances)) × (l.count ≤ l.at * 2 ^ 32)
