use Rattle.std.proofs.Common.{sym}
use Rattle.vg_design.proofs.ReadyLemmas.{instance_within}
use Rattle.vg_design.proofs.design.Design.instance_of.Goals as goal

pub instance-requires : goal.instance-requires
instance-requires c = instance_within c.self.inside.module c.args.at (rw (sym c.self.view_is) at c.requires)
