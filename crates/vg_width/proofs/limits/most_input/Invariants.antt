use Rattle.std.proofs.Common.{◌≡◌, take}
use Rattle.elmore.specs.Problems.{greatest_input}
use Rattle.vg_width.proofs.limits.most_input.Given as goal

abbrev pub invariant-inputs : goal.invariant-inputs
invariant-inputs l = greatest_input (take l.rep-index l.reps) ≡ l.most
