use Rattle.std.proofs.Common.{rules, ◌∙◌, sym, subst, ℤ, Option, Some, None}
use Rattle.std.proofs.lemmas.Int.{to_z-of_z}
use Rattle.std.specs.Int.{w128}
use Rattle.std.specs.Prelude.{MatchOption}
use mir.Val.{SFits}
use Rattle.elmore.specs.Best.{IsBest}
use Rattle.cand_pairs.specs.Certificates.{IsValidBest}
use Rattle.vg_cert.specs.Fits.{Fits, lists_in}
use Rattle.vg_slack.specs.Bests.{HasNoGood, IsFound}
use Rattle.vg_slack.specs.declared.answer.Best.{Best}
use Rattle.vg_slack.proofs.BestLemmas.{bare_placement}
use Rattle.vg_verdict.proofs.CertifyLemmas.{moved_count, moved_kept, good_time, certificate_fits, best_valid, none_valid}
use Rattle.vg_verdict.proofs.claim.certificate.Goals as goal

pub returns-in-Some-clause-fits : goal.returns-in-Some-clause-fits
returns-in-Some-clause-fits c =
    let p = c.args.p.now in
    let found : IsFound p c.in-Some.best = subst (λ (o : Option Best). MatchOption o (HasNoGood p) (IsFound p)) c.in-Some.is c.requires.found in
    let best : IsBest p c.in-Some.best.placement.cells c.in-Some.best.slack = found.best in
    let fits : SFits w128 c.in-Some.best.slack = search rules in
    subst (λ (x : ℤ). Fits p (record { slack = Some x; placement = c.in-Some.best.placement; lists = c.in_ok-lists.lists }))
    (sym (to_z-of_z w128 c.in-Some.best.slack fits))
    (certificate_fits p (record { slack = Some c.in-Some.best.slack; placement = c.in-Some.best.placement; lists = c.in_ok-lists.lists })
    (moved_kept p c.args.answer.lists c.in_ok-lists.lists.items c.requires.lists c.in_ok-lists.ensures)
    (moved_count p c.args.answer.lists c.in_ok-lists.lists.items c.requires.lists c.in_ok-lists.ensures)
    best.good.placement
    (good_time p c.in-Some.best.placement.cells c.in-Some.best.slack best.good best.slack)
    (λ e. absurd (cc)))

pub returns-in-Some-clause-valid : goal.returns-in-Some-clause-valid
returns-in-Some-clause-valid c =
    let p = c.args.p.now in
    let found : IsFound p c.in-Some.best = subst (λ (o : Option Best). MatchOption o (HasNoGood p) (IsFound p)) c.in-Some.is c.requires.found in
    let fits : SFits w128 c.in-Some.best.slack = search rules in
    subst (λ (x : ℤ). IsValidBest p c.in-Some.best.placement.cells (lists_in c.in_ok-lists.lists.items) x)
    (sym (to_z-of_z w128 c.in-Some.best.slack fits))
    (best_valid p (lists_in c.in_ok-lists.lists.items)
    (moved_kept p c.args.answer.lists c.in_ok-lists.lists.items c.requires.lists c.in_ok-lists.ensures)
    c.in-Some.best.placement.cells c.in-Some.best.slack found.best)

pub returns-in_ok-placement-in-None-clause-fits : goal.returns-in_ok-placement-in-None-clause-fits
returns-in_ok-placement-in-None-clause-fits c =
    let p = c.args.p.now in
    let placement = c.in_ok-placement-in-None.placement in
    certificate_fits p (record { slack = None; placement = placement; lists = c.in_ok-lists.lists })
    (moved_kept p c.args.answer.lists c.in_ok-lists.lists.items c.requires.lists c.in_ok-lists.ensures)
    (moved_count p c.args.answer.lists c.in_ok-lists.lists.items c.requires.lists c.in_ok-lists.ensures)
    (bare_placement p placement.cells (c.in_ok-placement-in-None.ensures.one_each ∙ c.len.ensures) c.in_ok-placement-in-None.ensures.no_cell)
    tt
    (λ e. c.in_ok-placement-in-None.ensures.no_cell)

pub returns-in_ok-placement-in-None-clause-valid : goal.returns-in_ok-placement-in-None-clause-valid
returns-in_ok-placement-in-None-clause-valid c =
    let p = c.args.p.now in
    none_valid p (lists_in c.in_ok-lists.lists.items)
    (moved_kept p c.args.answer.lists c.in_ok-lists.lists.items c.requires.lists c.in_ok-lists.ensures)
    (subst (λ (o : Option Best). MatchOption o (HasNoGood p) (IsFound p)) c.in-None.is c.requires.found)
