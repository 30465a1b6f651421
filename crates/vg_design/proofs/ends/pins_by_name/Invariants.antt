use Rattle.std.proofs.Common.{take}
use Rattle.ver_net.specs.Connections.{pins_on}
use Rattle.vg_design.specs.Steps.{AreSeen}
use Rattle.vg_design.proofs.ends.pins_by_name.Given as goal

abbrev pub invariant-pin : goal.invariant-pin
invariant-pin l = AreSeen l.design l.net (take l.at-index (pins_on l.design.netlist l.net.id)) l.ends
