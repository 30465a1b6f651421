use Rattle.std.proofs.Common.{◌≡◌, take}
use Rattle.vg_design.specs.Parts.{cells_of}
use Rattle.vg_verdict.proofs.names.cell_names.Given as goal

abbrev pub invariant-repeater : goal.invariant-repeater
invariant-repeater l = l.names.items ≡ cells_of (take l.repeater-index l.repeaters)
