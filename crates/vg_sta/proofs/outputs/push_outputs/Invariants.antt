use Rattle.std.proofs.Common.{◌≡◌, ◌++◌, take}
use Rattle.std.specs.List.{filter_map}
use Rattle.vg_sta.specs.Outputs.{onward_by}
use Rattle.vg_sta.proofs.outputs.push_outputs.Given as goal

abbrev pub invariant-pin : goal.invariant-pin
invariant-pin l =
    l.outputs.items ≡ l.initial.outputs.items ++ filter_map (onward_by l.design l.instance.cell) (take l.at l.instance.pins)
