use Rattle.std.proofs.Common.{length, sym, ap, ◌∙◌}
use Rattle.ver_module.specs.Netlists.{nets_in}
use Rattle.ver_module.proofs.NetLemmas.{count_nets}
use Rattle.ver_module.proofs.nets.Nets.len.Goals as goal

pub returns-clause-count : goal.returns-clause-count
returns-clause-count c =
    c.self.invariant.counts ∙ sym (count_nets c.self.inside.names c.self.inside.identifiers.items c.self.invariant.named) ∙ ap (λ t. length (nets_in t)) c.self.view_is
