use Rattle.std.proofs.Common.{◌≡◌, drop}
use Rattle.std.specs.List.{find}
use Rattle.vg_design.specs.Refusals.{is_unloaded}
use Rattle.vg_design.proofs.pins.PinnedNet.first_unloaded.Given as goal

abbrev pub invariant-connection : goal.invariant-connection
invariant-connection l =
    find (is_unloaded l.design l.self.net) l.self.net.par.conns ≡ find (is_unloaded l.design l.self.net) (drop l.conn-index l.self.net.par.conns)
