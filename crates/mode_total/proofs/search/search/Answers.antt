use Rattle.std.proofs.Common.{◌++◌, ◌∙◌, All, ap, flat_map, List, map, refl, subst, sym, Vec}
use Rattle.std.specs.declared.alloc.Global.{Global}
use Rattle.vg_answer.specs.Verdicts.{worse}
use Rattle.vg_answer.specs.declared.kind.AnswerKind.{AnswerKind}
use Rattle.vg_front.specs.declared.root.Point.{Point as Pick}
use Rattle.vg_total.specs.declared.pick.TotalPoint.{TotalPoint}
use Rattle.mode_total.specs.Choices.{AreChoices, accepted_in}
use Rattle.mode_total.specs.Picked.{AreFrontsFor, AreInside, choice_in}
use Rattle.mode_total.specs.Steps.{ArePicksFor, kept_total, kind_found}
use Rattle.mode_total.specs.declared.nets.Net.{Net}
use Rattle.mode_total.proofs.AnswerLemmas.{found_for}
use Rattle.mode_total.proofs.PickLemmas.{all_picks}
use Rattle.mode_total.proofs.search.search.Goals as goal

pub print_total-requires : goal.print_total-requires
print_total-requires c =
    let d = c.args.design.now in
    let all = c.in_ok-kind.field-0 in
    let are = c.in_ok-kind.ensures in
    let own = flat_map accepted_in are.standings in
    let points = c.in_ok-points.points.items in
    let passed = c.deref.ensures.value in
    let fronts_of = subst (AreFrontsFor c.args.cap own) (sym passed) are.kept.fronts_of in
    let choices = subst (λ (fronts : List (Vec Pick Global)). AreChoices own c.args.cap (map (choice_in fronts) points)) passed
    (c.in_ok-points.ensures.choices own fronts_of) in
    let inside = subst (λ (fronts : List (Vec Pick Global)). All (λ x. AreInside fronts x.picks.items) points) passed c.in_ok-points.ensures.inside in
    let picks = all_picks d c.args.cap own all.nets.items all.fronts.items are.kept points inside choices in
    let nets = subst (λ (some : List Net). All (λ x. ArePicksFor d some all.fronts.items x.picks.items) points) (sym c.deref-2.ensures.value) picks in
    let fronts =
    subst (λ (some : List (Vec Pick Global)). All (λ x. ArePicksFor d c.deref-2.result.now some x.picks.items) points) (sym c.deref-3.ensures.value) nets in
    subst (All (λ (x : TotalPoint). ArePicksFor d c.deref-2.result.now c.deref-3.result.now x.picks.items)) (sym c.deref-4.ensures.value) fronts

pub returns : goal.returns
returns c =
    let d = c.args.design.now in
    let all = c.in_ok-kind.field-0 in
    let are = c.in_ok-kind.ensures in
    let own = flat_map accepted_in are.standings in
    let points = c.in_ok-points.points.items in
    let passed = c.deref.ensures.value in
    let fronts_of = subst (AreFrontsFor c.args.cap own) (sym passed) are.kept.fronts_of in
    let choices = subst (λ (fronts : List (Vec Pick Global)). AreChoices own c.args.cap (map (choice_in fronts) points)) passed
    (c.in_ok-points.ensures.choices own fronts_of) in
    let inside = subst (λ (fronts : List (Vec Pick Global)). All (λ x. AreInside fronts x.picks.items) points) passed c.in_ok-points.ensures.inside in
    found_for d c.args.cap all _ are
    (c.worse.ensures ∙ ap (λ (kind : AnswerKind). worse kind all.kind) (c.kind_of.ensures ∙ ap kind_found c.deref-5.ensures.value))
    (c.in_ok-print_total.ensures
    ∙ (λ i. all.text.items ++ kept_total d (c.deref-2.ensures.value i) (map (choice_in (c.deref-3.ensures.value i)) (c.deref-4.ensures.value i))))
    refl refl choices inside
