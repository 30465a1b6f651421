use Rattle.std.proofs.Common.{rules, ◌∙◌, subst, ℤ}
use Rattle.std.proofs.lemmas.Int.{to_z-of_z}
use Rattle.std.specs.Int.{w128}
use mir.Val.{SFits}
use Rattle.vg_slack.specs.Bests.{IsGoodWith}
use Rattle.vg_slack.proofs.BestLemmas.{one_bare}
use Rattle.vg_slack.proofs.answer.bare_with.Goals as goal

pub returns : goal.returns
returns c =
    let fits : SFits w128 c.args.most = search rules in
    one_bare c.args.p.now c.in_ok-placement.placement.cells c.args.most (c.in_ok-placement.ensures.one_each ∙ c.len-n.ensures)
    c.in_ok-placement.ensures.no_cell
    (subst (λ (x : ℤ). IsGoodWith c.args.p.now c.in_ok-placement.placement.cells x → ⊥) (to_z-of_z w128 c.args.most fits) c.if-is_good_with.ensures)
