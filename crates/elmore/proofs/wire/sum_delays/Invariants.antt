use Rattle.std.proofs.Common.{length, pos}
use Rattle.elmore.specs.Wire.{delay_in, downstream_in}
use Rattle.elmore.proofs.FilledLemmas.{AreReplaced}
use Rattle.elmore.proofs.wire.sum_delays.Given as goal

abbrev pub invariant-down : goal.invariant-down
invariant-down l = AreReplaced (λ k. pos (delay_in l.nodes k)) (λ k. pos (downstream_in l.nodes k)) (pos 0) l.v (length l.nodes) l.delays
