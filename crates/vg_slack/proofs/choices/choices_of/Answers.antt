use Rattle.std.proofs.Common.{rules, ◌*◌, ◌∙◌, ◌<◌, sym, ap, subst, ℕ, ℤ, Option}
use Rattle.std.proofs.lemmas.Int.{to_z-of_z}
use Rattle.std.specs.Int.{w128}
use mir.Val.{SFits}
use Rattle.cand_uses.specs.Pairs.{pairs_of}
use Rattle.wire_widths.proofs.WideTurnLemmas.{wide_root_none}
use Rattle.vg_slack.specs.declared.root.Choice.{Choice}
use Rattle.vg_slack.specs.Roots.{IsChoice}
use Rattle.vg_slack.specs.Choices.{AreBestChoices}
use Rattle.vg_slack.proofs.BestLemmas.{chosen_live, chosen_inside, best_sites}
use Rattle.vg_slack.proofs.choices.choices_of.Goals as goal

pub returns-in_default : goal.returns-in_default
returns-in_default c =
    let xs = c.requires.root.candidates in
    wide_root_none c.args.p.now c.args.widths.now (pairs_of xs) c.requires.widths.are c.requires.root.exact
    (subst (λ (o : Option Choice). IsChoice c.args.p.now xs o) c.in_default.is c.requires.root.chosen)

pub places-requires-clause-live : goal.places-requires-clause-live
places-requires-clause-live c =
    let xs = c.requires.root.candidates in
    let is = subst (λ (o : Option Choice). IsChoice c.args.p.now xs o) c.in-Some.is c.requires.root.chosen in
    chosen_live c.args.p.now c.args.arena.now xs c.in-Some.choice.slack c.in-Some.choice.sol.0 c.requires.root.uses is

pub places-requires-clause-below : goal.places-requires-clause-below
places-requires-clause-below c = λ v x e.
    let xs = c.requires.root.candidates in
    let is = subst (λ (o : Option Choice). IsChoice c.args.p.now xs o) c.in-Some.is c.requires.root.chosen in
    subst (λ (n : ℕ). v < 2 * n) (sym c.len.ensures)
    (chosen_inside c.args.p.now c.args.widths.now c.requires.widths c.args.arena.now xs c.in-Some.choice.slack c.in-Some.choice.sol.0 c.requires.root.exact c.requires.root.solved is v x e)

pub returns : goal.returns
returns c =
    let xs = c.requires.root.candidates in
    let is = subst (λ (o : Option Choice). IsChoice c.args.p.now xs o) c.in-Some.is c.requires.root.chosen in
    let fits : SFits w128 c.in-Some.choice.slack = search rules in
    subst (λ (x : ℤ). AreBestChoices c.args.p.now c.args.widths.now (record { slack = x; sites = c.in_ok-placement.placement.cells })) (sym (to_z-of_z w128 c.in-Some.choice.slack fits))
    (best_sites c.args.p.now c.args.widths.now c.requires.widths c.args.arena.now xs c.in-Some.choice.slack c.in-Some.choice.sol.0 c.requires.root.exact c.requires.root.solved is
    c.in_ok-placement.placement.cells (c.in_ok-placement.ensures.room ∙ ap (λ (n : ℕ). 2 * n) c.len.ensures) c.in_ok-placement.ensures.cells)
