use Rattle.std.proofs.Common.{◌∙◌, List, false, refl, rules, subst, sym}
use Rattle.std.proofs.lemmas.Bool.{false≢true}
use Rattle.std.proofs.lemmas.Int.{to_z-of_z}
use Rattle.std.specs.Int.{w128}
use Rattle.std.specs.List.{All, Contains}
use Rattle.elmore.specs.declared.pair.Pair.{Pair}
use mir.Val.{SFits}
use Rattle.vg_cert.specs.Fits.{IsEntry}
use Rattle.vg_check.specs.Verdicts.{IsBoundOf, IsOver, IsRootBound}
use Rattle.vg_check.proofs.VerdictLemmas.{bound_first, cert_valid, none_over, one_over, root_list, valid_verdict}
use Rattle.vg_check.proofs.judge.judge_bound.Goals as goal

pub root_bound-requires : goal.root_bound-requires
root_bound-requires c =
    let same = c.deref.ensures.value ∙ root_list c.args.p.now c.args.cert.now c.index.result.now c.requires.fits.one_each c.index.ensures in
    record { entries = subst (λ (xs : List Pair). All IsEntry xs) (sym same) (c.requires.fits.lists 0 false).entries }

pub returns-in-Some-clause-verdict : goal.returns-in-Some-clause-verdict
returns-in-Some-clause-verdict c =
    let same = c.deref.ensures.value ∙ root_list c.args.p.now c.args.cert.now c.index.result.now c.requires.fits.one_each c.index.ensures in
    let fits : SFits w128 c.in-Some.bound = search rules in
    let over : IsOver c.args.cert.now.slack c.in-Some.bound = rw (to_z-of_z w128 c.in-Some.bound fits) at (c.if-is_over.ensures.0 refl) in
    rw (to_z-of_z w128 c.in-Some.bound fits)
    (bound_first c.args.p.now c.args.cert.now c.in-Some.bound c.requires.placement c.requires.cover
    (subst (λ (xs : List Pair). IsRootBound c.args.p.now (Contains xs) c.in-Some.bound) same c.in-Some.ensures) over).0

pub returns-in_default-clause-verdict : goal.returns-in_default-clause-verdict
returns-in_default-clause-verdict c =
    let same = c.deref.ensures.value ∙ root_list c.args.p.now c.args.cert.now c.index.result.now c.requires.fits.one_each c.index.ensures in
    let fits : SFits w128 c.in-Some.bound = search rules in
    valid_verdict c.args.p.now c.args.cert.now
    (cert_valid c.args.p.now c.args.cert.now c.requires.placement c.requires.cover c.root_bound.result
    (subst (λ (xs : List Pair). IsBoundOf c.args.p.now xs c.root_bound.result) same c.root_bound.ensures)
    (one_over c.args.cert.now.slack c.root_bound.result c.in-Some.bound c.in-Some.is
    (λ over. false≢true (c.if-is_over.ensures.1 (rw (to_z-of_z w128 c.in-Some.bound fits) over)))))

pub returns-in_default-clause-valid : goal.returns-in_default-clause-valid
returns-in_default-clause-valid c =
    let same = c.deref.ensures.value ∙ root_list c.args.p.now c.args.cert.now c.index.result.now c.requires.fits.one_each c.index.ensures in
    let fits : SFits w128 c.in-Some.bound = search rules in λ _.
    cert_valid c.args.p.now c.args.cert.now c.requires.placement c.requires.cover c.root_bound.result
    (subst (λ (xs : List Pair). IsBoundOf c.args.p.now xs c.root_bound.result) same c.root_bound.ensures)
    (one_over c.args.cert.now.slack c.root_bound.result c.in-Some.bound c.in-Some.is
    (λ over. false≢true (c.if-is_over.ensures.1 (rw (to_z-of_z w128 c.in-Some.bound fits) over))))

pub returns-in_default-2-clause-verdict : goal.returns-in_default-2-clause-verdict
returns-in_default-2-clause-verdict c =
    let same = c.deref.ensures.value ∙ root_list c.args.p.now c.args.cert.now c.index.result.now c.requires.fits.one_each c.index.ensures in
    valid_verdict c.args.p.now c.args.cert.now
    (cert_valid c.args.p.now c.args.cert.now c.requires.placement c.requires.cover c.root_bound.result
    (subst (λ (xs : List Pair). IsBoundOf c.args.p.now xs c.root_bound.result) same c.root_bound.ensures)
    (none_over c.args.cert.now.slack c.root_bound.result c.in_default.is))

pub returns-in_default-2-clause-valid : goal.returns-in_default-2-clause-valid
returns-in_default-2-clause-valid c =
    let same = c.deref.ensures.value ∙ root_list c.args.p.now c.args.cert.now c.index.result.now c.requires.fits.one_each c.index.ensures in λ _.
    cert_valid c.args.p.now c.args.cert.now c.requires.placement c.requires.cover c.root_bound.result
    (subst (λ (xs : List Pair). IsBoundOf c.args.p.now xs c.root_bound.result) same c.root_bound.ensures)
    (none_over c.args.cert.now.slack c.root_bound.result c.in_default.is)
