use Rattle.std.proofs.Common.{◌∙◌, ℕ, List, ap, refl, subst}
use Rattle.std.specs.Prelude.{IfOk}
use Rattle.vg_change.specs.Changes.{Changes}
use Rattle.vg_design.specs.Designs.{net_names}
use Rattle.vg_answer.specs.Nets.{named}
use Rattle.vg_place.proofs.JudgedLemmas.{nothing_judged}
use Rattle.mode_best.specs.Answers.{IsBestSaid}
use Rattle.mode_best.specs.Steps.{AreCertified, AreBestJudged}
use Rattle.mode_best.proofs.CertLemmas.{all_certified}
use Rattle.mode_best.proofs.best.judge_nets.Goals as goal

pub judge_asked-requires-clause-empty : goal.judge_asked-requires-clause-empty
judge_asked-requires-clause-empty c =
    let d = c.args.design.now in
    nothing_judged (IsBestSaid d) d c.args.changes c.new-judging.result c.requires.none c.new-judging.ensures

pub judge_all-requires-clause-empty : goal.judge_all-requires-clause-empty
judge_all-requires-clause-empty c =
    let d = c.args.design.now in
    nothing_judged (IsBestSaid d) d c.args.changes c.new-judging.result c.requires.none c.new-judging.ensures

pub returns-in-Some : goal.returns-in-Some
returns-in-Some c = λ asked same wanted.
    subst (λ (prefix : List ℕ). IfOk c.judge_asked.result (AreCertified c.args.design.now prefix asked))
    (ap (λ (changes : Changes). changes.prefix) c.new-judging.ensures.same)
    (c.judge_asked.ensures asked (same ∙ ap named c.in-Some.is) wanted)

pub returns : goal.returns
returns c = λ asked same wanted.
    let d = c.args.design.now in
    let all = c.in_ok-judging-in-None.judging in
    all_certified d c.args.changes.prefix asked (net_names d.spef) all (same ∙ ap named c.in-None.is) refl
    (subst (λ (prefix : List ℕ). AreBestJudged d prefix (net_names d.spef) all) (ap (λ (changes : Changes). changes.prefix) c.new-judging.ensures.same)
    c.in_ok-judging-in-None.ensures)
