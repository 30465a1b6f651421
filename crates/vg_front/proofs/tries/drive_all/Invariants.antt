use Rattle.std.proofs.Common.{take}
use Rattle.vg_front.specs.Tries.{DriveAll}
use Rattle.vg_front.proofs.tries.drive_all.Given as goal

abbrev pub invariant-numbers : goal.invariant-numbers
invariant-numbers l = DriveAll l.reps (take l.number-index l.numbers) l.c
