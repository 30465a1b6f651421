use Rattle.std.proofs.Common.{◌≡◌, map, take}
use Rattle.vg_split.specs.Splits.{forest, head, place_in}
use Rattle.vg_split.specs.Stages.{members}
use Rattle.vg_split.proofs.stage.push_numbers.Given as goal

abbrev pub invariant-node : goal.invariant-node
invariant-node l = l.numbers.items ≡ map (place_in l.x l.stage) (take l.node-index (members (forest l.x) (head l.x l.stage)))
