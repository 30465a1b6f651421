use Rattle.std.proofs.Common.{◌≡◌, ◌++◌, take}
use Rattle.std.specs.List.{flat_map}
use Rattle.vg_split.specs.Splits.{forest, head, net_of}
use Rattle.vg_split.specs.Stages.{members}
use Rattle.vg_change.specs.Placed.{rewires_at}
use Rattle.vg_change.specs.Steps.{placed_by}
use Rattle.vg_change.proofs.rewires.push_rewires_in.Given as goal

abbrev pub invariant-node : goal.invariant-node
invariant-node l = record {
  net : l.net.items ≡ net_of l.x l.stage;
  put : l.to ≡ l.initial.to
      ++ flat_map (rewires_at l.design.netlist (placed_by l.pinned.net l.x) l.x l.stage) (take l.node-index (members (forest l.x) (head l.x l.stage)));
}
