-- The pairs of time and load of candidates.
use Rattle.std.specs.Prelude.{List, map}
use Rattle.cand_pool.specs.Candidates.{Candidate, Candidates}
use Rattle.elmore.specs.declared.pair.Pair.{Pair}

abbrev pub pair_of : Candidate → Pair
pair_of x = record { q = x.q; c = x.c }

abbrev pub pairs_of : Candidates → List Pair
pairs_of xs = map pair_of xs
