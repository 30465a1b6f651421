use Rattle.std.proofs.Common.{◌≡◌, length}
use Rattle.vg_change.specs.Steps.{SaysStages}
use Rattle.vg_change.proofs.sections.sections_text.Given as goal

abbrev pub invariant-stage : goal.invariant-stage
invariant-stage l = record {
  places : length l.room.scratch.places.items ≡ length l.x.problem.tree.nodes;
  said : SaysStages l.header l.x l.stage l.text.items;
}
