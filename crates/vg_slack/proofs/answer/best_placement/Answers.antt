use Rattle.std.proofs.Common.{rules, [], ◌∷◌, sym, subst, ℤ, Option, to_z, of_z}
use Rattle.std.proofs.lemmas.Int.{to_z-of_z}
use Rattle.std.specs.Int.{w128}
use Rattle.std.specs.Prelude.{MatchOption}
use mir.Val.{SFits}
use Rattle.elmore.specs.declared.placement.Placement.{Placement}
use Rattle.wire_widths.specs.Widths.{plain}
use Rattle.vg_slack.specs.Choices.{AreChoices}
use Rattle.vg_slack.specs.Bests.{IsBare, NoneIsBare, IsFound}
use Rattle.vg_slack.proofs.BestLemmas.{none_plain, placed_best, bare_best}
use Rattle.vg_slack.proofs.answer.best_placement.Goals as goal

pub returns-in_default : goal.returns-in_default
returns-in_default c = none_plain c.args.p.now (subst (AreChoices c.args.p.now (plain ∷ [])) c.in_default.is c.requires)

pub placement_of-placement-requires : goal.placement_of-placement-requires
placement_of-placement-requires c = record { sites = (subst (AreChoices c.args.p.now (plain ∷ [])) c.in-Some.is c.requires).each }

pub returns-in-Some-2 : goal.returns-in-Some-2
returns-in-Some-2 c =
    let are = subst (AreChoices c.args.p.now (plain ∷ [])) c.in-Some.is c.requires in
    let fits : SFits w128 c.in-Some.choices.slack = search rules in
    let bare = subst (λ (o : Option Placement). MatchOption o (NoneIsBare c.args.p.now (to_z w128 (of_z w128 c.in-Some.choices.slack)))
    (λ (at : Placement). IsBare c.args.p.now (to_z w128 (of_z w128 c.in-Some.choices.slack)) at.cells)) c.in-Some-2.is c.in_ok-placement.ensures in
    subst (λ (x : ℤ). IsFound c.args.p.now (record { slack = x; placement = c.in-Some-2.placement })) (sym (to_z-of_z w128 c.in-Some.choices.slack fits))
    (bare_best c.args.p.now c.in-Some.choices c.in-Some-2.placement.cells are
    (subst (λ (x : ℤ). IsBare c.args.p.now x c.in-Some-2.placement.cells) (to_z-of_z w128 c.in-Some.choices.slack fits) bare))

pub returns : goal.returns
returns c =
    let are = subst (AreChoices c.args.p.now (plain ∷ [])) c.in-Some.is c.requires in
    let fits : SFits w128 c.in-Some.choices.slack = search rules in
    let bare = subst (λ (o : Option Placement). MatchOption o (NoneIsBare c.args.p.now (to_z w128 (of_z w128 c.in-Some.choices.slack)))
    (λ (at : Placement). IsBare c.args.p.now (to_z w128 (of_z w128 c.in-Some.choices.slack)) at.cells)) c.in_default-2.is c.in_ok-placement.ensures in
    subst (λ (x : ℤ). IsFound c.args.p.now (record { slack = x; placement = c.placement_of-placement.result })) (sym (to_z-of_z w128 c.in-Some.choices.slack fits))
    (placed_best c.args.p.now c.in-Some.choices c.placement_of-placement.result.cells are c.placement_of-placement.ensures
    (subst (λ (x : ℤ). NoneIsBare c.args.p.now x) (to_z-of_z w128 c.in-Some.choices.slack fits) bare))
