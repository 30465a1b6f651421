use Rattle.std.proofs.Common.{◌≡◌, take}
use Rattle.vg_design.specs.Parts.{reps_of}
use Rattle.vg_design.proofs.parts.reps_of.Given as goal

abbrev pub invariant-repeater : goal.invariant-repeater
invariant-repeater l = l.reps.items ≡ reps_of (take l.repeater-index l.repeaters)
