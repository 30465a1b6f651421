use Rattle.std.proofs.Common.{sym, ◌∙◌}
use Rattle.vg_design.proofs.ConnectionLemmas.{tied_is, tied_within}
use Rattle.vg_design.proofs.design.Design.is_tied.Goals as goal

pub is_tied-requires : goal.is_tied-requires
is_tied-requires c = tied_within c.self.inside.module c.self.inside.connections c.self.invariant.connected c.args.id (rw (sym c.self.view_is) at c.requires)

pub returns : goal.returns
returns c = rw (sym c.self.view_is) (c.is_tied.ensures ∙ tied_is c.self.inside.module c.self.inside.connections c.self.invariant.connected c.args.id (rw (sym c.self.view_is) at c.requires))
