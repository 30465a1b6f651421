use Rattle.std.proofs.Common.{◌≡◌, map, take}
use Rattle.vg_sta.specs.Outputs.{onward_of}
use Rattle.vg_sta.specs.Spans.{AreSpans, parts_of}
use Rattle.vg_sta.proofs.outputs.Outputs.of.Given as goal

abbrev pub invariant-instance : goal.invariant-instance
invariant-instance l = record {
  parts : parts_of l.spans.items l.outputs.items ≡ map (onward_of l.design) (take l.at l.design.netlist.instances);
  spans : AreSpans l.spans.items l.outputs.items;
}
