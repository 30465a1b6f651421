use Rattle.std.proofs.Common.{ap, List, refl, subst, ℕ}
use Rattle.vg_change.specs.Changes.{Changes}
use Rattle.mode_total.specs.Steps.{ArePatched}
use Rattle.mode_total.proofs.AnswerLemmas.{judged}
use Rattle.mode_total.proofs.total.judge.Goals as goal

pub returns-in_ok-patches-in-Ok : goal.returns-in_ok-patches-in-Ok
returns-in_ok-patches-in-Ok c =
    let d = c.args.design.now in
    let found = c.in_ok-found-in-Ok.found in
    let put =
    subst (λ (prefix : List ℕ). ArePatched d prefix found c.in_ok-patches-in-Ok.patches) (ap (λ (changes : Changes). changes.prefix) c.in-Ok.ensures.made)
    c.in_ok-patches-in-Ok.ensures in
    (c.in-Ok.ensures.free, judged d c.args.cap c.args.prefix.now found _ c.in_ok-found-in-Ok.ensures put refl refl)
