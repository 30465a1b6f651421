use Rattle.std.proofs.Common.{length, pos}
use Rattle.elmore.specs.Placed.{placed_load, placed_delay}
use Rattle.elmore.proofs.FilledLemmas.{AreReplaced}
use Rattle.elmore.proofs.slacks.sum_placed_delays.Given as goal

abbrev pub invariant-down : goal.invariant-down
invariant-down l = AreReplaced (λ k. pos (placed_delay l.nodes l.reps l.cells 0 k)) (λ k. pos (placed_load l.nodes l.reps l.cells k)) (pos 0) l.v (length l.nodes) l.delays
