use Rattle.std.proofs.Common.{ℕ, ◌<◌, slice_index_or}
use Rattle.elmore.specs.Pairs.{IsBelow}
use Rattle.elmore.specs.declared.pair.Pair.{Pair}
use Rattle.tests_model.proofs.candidates.is_rising.Given as goal

abbrev pub invariant-pairs : goal.invariant-pairs
invariant-pairs l = (k j : ℕ) (d : Pair) → k < j → j < l.i → IsBelow (slice_index_or l.pairs k d) (slice_index_or l.pairs j d)
