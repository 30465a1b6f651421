use Rattle.cut_laws.specs.CutNets.{forest_of}
use Rattle.vg_split.specs.Stages.{AreStagesTo}
use Rattle.vg_split.proofs.stages.Stages.of.Given as goal

abbrev pub invariant-node : goal.invariant-node
invariant-node l = AreStagesTo (forest_of l.p l.cells) l.node l.node l.stages
