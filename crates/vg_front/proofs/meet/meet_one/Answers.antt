use Rattle.std.proofs.Common.{sym, subst, List}
use Rattle.vg_front.specs.declared.offer.Candidate.{Candidate}
use Rattle.vg_front.specs.Held.{AreBounded}
use Rattle.vg_front.proofs.RunLemmas.{run_bounded}
use Rattle.vg_front.proofs.meet.meet_one.Goals as goal

pub meet_runs-requires-clause-bounded_first : goal.meet_runs-requires-clause-bounded_first
meet_runs-requires-clause-bounded_first c =
    subst (λ (l : List Candidate). AreBounded l) (sym c.run_in-first.ensures)
    (run_bounded c.args.xs.now c.args.first c.requires.first c.requires.bounded_first)

pub meet_runs-requires-clause-bounded_second : goal.meet_runs-requires-clause-bounded_second
meet_runs-requires-clause-bounded_second c =
    subst (λ (l : List Candidate). AreBounded l) (sym c.run_in-second.ensures)
    (run_bounded c.args.ys.now c.args.second c.requires.second c.requires.bounded_second)
