use Rattle.std.proofs.Common.{◌≡◌, ◌++◌, map, take}
use Rattle.ver_patch.specs.Orders.{rewires_at}
use Rattle.ver_patch.specs.Patches.{rewired}
use Rattle.ver_patch.proofs.text.put_rewires.Given as goal

abbrev pub invariant-order : goal.invariant-order
invariant-order l = l.edits ≡ l.initial.edits ++ map (rewired l.netlist) (rewires_at l.rewires (take l.number-index l.order))
