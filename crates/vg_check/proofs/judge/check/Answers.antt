use Rattle.std.proofs.Common.{subst}
use Rattle.std.specs.Prelude.{MatchOption}
use Rattle.cand_pairs.specs.Candidates.{IsCover, of_lists}
use Rattle.cand_pairs.proofs.CertificateLemmas.{valid_shows}
use Rattle.vg_cert.specs.Fits.{lists_of}
use Rattle.vg_check.specs.Verdicts.{IsFault, IsLastUncovered, IsPlacementSound}
use Rattle.vg_check.specs.declared.verdict.Verdict.TheVariants.{Uncovered}
use Rattle.vg_check.proofs.VerdictLemmas.{fault_invalid, uncovered_first, valid_is_yes}
use Rattle.vg_check.proofs.judge.check.Goals as goal

pub returns-in-Some-clause-valid : goal.returns-in-Some-clause-valid
returns-in-Some-clause-valid c =
    fault_invalid c.args.p.now c.args.cert.now c.in-Some.verdict
    (subst (λ o. MatchOption o (IsPlacementSound c.args.p.now c.args.cert.now) (IsFault c.args.p.now c.args.cert.now)) c.in-Some.is c.in_ok-verdict.ensures)

pub returns-in-Some-2-clause-valid : goal.returns-in-Some-2-clause-valid
returns-in-Some-2-clause-valid c =
    fault_invalid c.args.p.now c.args.cert.now (Uncovered c.in-Some-2.node)
    (uncovered_first c.args.p.now c.args.cert.now c.in-Some-2.node
    (subst (λ o. MatchOption o (IsPlacementSound c.args.p.now c.args.cert.now) (IsFault c.args.p.now c.args.cert.now)) c.in_default.is
    c.in_ok-verdict.ensures)
    (
    subst (λ o. MatchOption o (IsCover c.args.p.now (of_lists (lists_of c.args.cert.now))) (IsLastUncovered c.args.p.now (lists_of c.args.cert.now)))
    c.in-Some-2.is (rw c.deref.ensures.value at c.in_ok-node.ensures)))

pub judge_bound-requires-clause-cover : goal.judge_bound-requires-clause-cover
judge_bound-requires-clause-cover c =
    subst (λ o. MatchOption o (IsCover c.args.p.now (of_lists (lists_of c.args.cert.now))) (IsLastUncovered c.args.p.now (lists_of c.args.cert.now)))
    c.in_default-2.is (rw c.deref.ensures.value at c.in_ok-node.ensures)

pub returns-clause-valid : goal.returns-clause-valid
returns-clause-valid c = (
  c.judge_bound.ensures.valid,
  λ valid. valid_is_yes c.args.p.now c.args.cert.now valid c.judge_bound.result c.judge_bound.ensures.verdict.found,
)

pub returns-clause-shown : goal.returns-clause-shown
returns-clause-shown c = λ yes.
    valid_shows c.args.p.now c.args.cert.now.slack c.args.cert.now.placement.cells (lists_of c.args.cert.now) (c.judge_bound.ensures.valid yes)
