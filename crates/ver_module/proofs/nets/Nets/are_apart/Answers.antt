use Rattle.std.proofs.Common.{subst}
use Rattle.ver_module.specs.Netlists.{nets_in}
use Rattle.ver_module.specs.Names.{AreApart}
use Rattle.ver_module.proofs.FindLemmas.{apart}
use Rattle.ver_module.proofs.nets.Nets.are_apart.Goals as goal

pub returns : goal.returns
returns c =
    subst (λ t. AreApart (nets_in t)) c.self.view_is
    (apart c.self.inside.names c.self.inside.identifiers.items c.self.inside.firsts.items c.self.inside.count c.self.invariant)
