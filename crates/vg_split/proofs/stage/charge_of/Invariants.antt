use Rattle.std.proofs.Common.{◌≡◌, take}
use Rattle.std.specs.Prelude.{sum_by}
use Rattle.vg_split.specs.Splits.{cap_in, forest, head}
use Rattle.vg_split.specs.Stages.{members}
use Rattle.vg_split.proofs.stage.charge_of.Given as goal

abbrev pub invariant-node : goal.invariant-node
invariant-node l = l.sum ≡ sum_by (cap_in l.x l.stage) (take l.node-index (members (forest l.x) (head l.x l.stage)))
