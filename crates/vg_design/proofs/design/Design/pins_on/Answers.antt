use Rattle.std.proofs.Common.{sym, ◌∙◌}
use Rattle.vg_design.proofs.ConnectionLemmas.{pins_are, pins_within}
use Rattle.vg_design.proofs.design.Design.pins_on.Goals as goal

pub pins_of-requires : goal.pins_of-requires
pins_of-requires c = pins_within c.self.inside.module c.self.inside.connections c.self.invariant.connected c.args.id (rw (sym c.self.view_is) at c.requires)

pub returns : goal.returns
returns c = rw (sym c.self.view_is) (c.pins_of.ensures ∙ pins_are c.self.inside.module c.self.inside.connections c.self.invariant.connected c.args.id (rw (sym c.self.view_is) at c.requires))
