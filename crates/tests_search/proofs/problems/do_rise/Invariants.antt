use Rattle.std.proofs.Common.{ℕ, ◌<◌, slice_index_or}
use Rattle.tests_search.proofs.problems.do_rise.Given as goal

abbrev pub invariant-numbers : goal.invariant-numbers
invariant-numbers l = (k j d : ℕ) → k < j → j < l.i → slice_index_or l.numbers k d < slice_index_or l.numbers j d
