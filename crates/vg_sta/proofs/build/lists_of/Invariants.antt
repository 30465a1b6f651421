use Rattle.std.proofs.Common.{◌≤◌}
use Rattle.elmore.specs.Room.{room_of}
use Rattle.vg_sta.specs.Steps.{AreListed}
use Rattle.vg_sta.proofs.build.lists_of.Given as goal

abbrev pub invariant-section : goal.invariant-section
invariant-section l = record { listed : AreListed l.design l.section l.lists; room : 65536 ≤ room_of l.scratch }
