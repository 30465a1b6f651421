use Rattle.std.proofs.Common.{◌≡◌, ◌<◌, length, ap, arith}
use Rattle.ver_module.specs.Netlists.{NetTable}
use Rattle.ver_module.proofs.NetLemmas.{fewer}
use Rattle.ver_module.proofs.nets.Nets.identifier_name.Goals as goal

pub overflow_cast-at : goal.overflow_cast-at
overflow_cast-at c =
    let h = c.self.invariant in
    omega (arith, c.requires, ap (λ (t : NetTable). length t.names) c.self.view_is, h.named, fewer c.self.inside.identifiers.items, h.counts, h.few)
