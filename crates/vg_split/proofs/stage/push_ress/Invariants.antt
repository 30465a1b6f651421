use Rattle.std.proofs.Common.{◌≡◌, drop, map, take}
use Rattle.vg_split.specs.Splits.{forest, head, res_in}
use Rattle.vg_split.specs.Stages.{members}
use Rattle.vg_split.proofs.stage.push_ress.Given as goal

abbrev pub invariant-node : goal.invariant-node
invariant-node l = l.ress.items ≡ map (res_in l.x l.stage) (take l.node-index (drop 1 (members (forest l.x) (head l.x l.stage))))
