use Rattle.std.proofs.Common.{length}
use Rattle.vg_front.proofs.tries.+try_halves.Given as goal

abbrev pub decreases-try_halves : goal.decreases-try_halves
decreases-try_halves l = length l.numbers.now
