use Rattle.std.proofs.Common.{◌∙◌, All, length, map, sym}
use Rattle.std.proofs.lemmas.List.Elements.{All-weaker}
use Rattle.std.proofs.lemmas.Bool.{eqb-true}
use Rattle.std.proofs.lemmas.Result.{IfOk-weaker}
use Rattle.vg_total.specs.Picks.{AreTotals, IsPicked}
use Rattle.mode_total.specs.Choices.{AreChoices}
use Rattle.mode_total.specs.Picked.{AreInside, choice_in}
use Rattle.mode_total.proofs.ChoiceLemmas.{choices_for, no_choices, some_in}
use Rattle.mode_total.proofs.PickLemmas.{fronts_rise, inside_found}
use Rattle.mode_total.proofs.search.points_of.Goals as goal

pub returns-then-is_empty-clause-choices : goal.returns-then-is_empty-clause-choices
returns-then-is_empty-clause-choices c = λ nets are. no_choices c.args.cap nets c.args.fronts.now c.new.result.items
    (eqb-true (length c.args.fronts.now) 0 (sym c.is_empty.ensures ∙ c.if-is_empty.true)) c.new.ensures.items are

pub total-requires : goal.total-requires
total-requires c = record {
  some = some_in c.args.fronts.now (sym c.is_empty.ensures ∙ c.if-is_empty.false);
  short = c.requires.short;
  rising = fronts_rise c.args.cap c.requires.fronts.0 c.args.fronts.now c.requires.fronts.1;
}

pub returns-clause-choices : goal.returns-clause-choices
returns-clause-choices c = λ nets are.
    let fronts = c.args.fronts.now in
    IfOk-weaker c.total.result (λ points. AreTotals fronts c.args.cap points.items) (λ points. AreChoices nets c.args.cap (map (choice_in fronts) points.items))
    (λ points found. choices_for c.args.cap nets fronts points.items (some_in fronts (sym c.is_empty.ensures ∙ c.if-is_empty.false)) are found) c.total.ensures

pub returns-clause-inside : goal.returns-clause-inside
returns-clause-inside c =
    let fronts = c.args.fronts.now in
    IfOk-weaker c.total.result (λ points. AreTotals fronts c.args.cap points.items) (λ points. All (λ x. AreInside fronts x.picks.items) points.items)
    (λ points found. All-weaker (IsPicked fronts) (λ x. AreInside fronts x.picks.items) (inside_found fronts) points.items found.picked) c.total.ensures
