use Rattle.std.proofs.Common.{◌≡◌}
use Rattle.std.proofs.Common.{slice_index_or}
use Rattle.vg_front.specs.Tries.{before, IsLatest}
use Rattle.vg_front.specs.declared.offer.Candidate.{Candidate}
use Rattle.vg_front.proofs.tries.latest.Given as goal

abbrev pub invariant-candidates : goal.invariant-candidates
invariant-candidates l = record {
  latest : IsLatest l.xs l.i l.r l.at;
  best : (d : Candidate) → l.best ≡ before l.r (slice_index_or l.xs l.at d).offer;
}
