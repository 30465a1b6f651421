use Rattle.std.proofs.Common.{length, ap, arith}
use Rattle.ver_module.specs.Netlists.{nets_in}
use Rattle.ver_module.proofs.NetLemmas.{count_nets}
use Rattle.ver_module.proofs.nets.Nets.are_few.Goals as goal

pub returns : goal.returns
returns c =
    omega (arith, c.self.invariant.few, c.self.invariant.counts, count_nets c.self.inside.names c.self.inside.identifiers.items c.self.invariant.named, ap (λ t. length (nets_in t)) c.self.view_is)
