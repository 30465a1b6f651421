use Rattle.std.proofs.Common.{◌≡◌, take, false}
use Rattle.std.specs.List.{list_any}
use Rattle.vg_design.specs.Designs.{name_of}
use Rattle.vg_design.specs.Steps.{is_port_end}
use Rattle.vg_design.proofs.connected.has_port_end.Given as goal

abbrev pub invariant-end : goal.invariant-end
invariant-end l = list_any (λ conn. is_port_end l.module_net (name_of l.net conn.node)) (take l.conn-index l.net.conns) ≡ false
