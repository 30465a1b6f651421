use Rattle.std.proofs.Common.{◌≡◌, ◌∙◌, ap, rules, subst, sym, of_z, to_z}
use Rattle.std.proofs.lemmas.Int.{to_z-of_z}
use Rattle.std.specs.Int.{w128}
use Rattle.elmore.specs.Best.{IsGood}
use Rattle.elmore.specs.Placements.{IsSlack}
use mir.Val.{SFits}
use Rattle.vg_check.proofs.VerdictLemmas.{slack_first}
use Rattle.vg_check.proofs.placed.misplaced.Goals as goal

pub slack-real-requires-clause-placed : goal.slack-real-requires-clause-placed
slack-real-requires-clause-placed c = λ v b e. ((c.in_default.ensures.illegal v).cell b e).at_place

pub returns-then-real-written : goal.returns-then-real-written
returns-then-real-written c =
    let written_fits : SFits w128 c.args.written = search rules in
    let real_fits : SFits w128 c.slack-real.result = search rules in
    let good : IsGood c.args.p.now c.args.cert.now.placement.cells
    = record { placement = c.requires.placement; legal = c.in_default.ensures.illegal; wanted = c.in_default-first_wrong.ensures.wrong } in
    rw (to_z-of_z w128 c.args.written written_fits, to_z-of_z w128 c.slack-real.result real_fits)
    (slack_first c.args.p.now c.args.cert.now c.args.written c.slack-real.result c.requires.written good c.slack-real.ensures.slack
    (λ e. c.if-real-written.true (ap (of_z w128) (sym e))))

pub returns : goal.returns
returns c =
    let written_fits : SFits w128 c.args.written = search rules in
    let real_fits : SFits w128 c.slack-real.result = search rules in
    let same : c.slack-real.result ≡ c.args.written
    = sym (to_z-of_z w128 c.slack-real.result real_fits) ∙ ap (to_z w128) c.if-real-written.false ∙ to_z-of_z w128 c.args.written written_fits in
    record {
      good = record { placement = c.requires.placement; legal = c.in_default.ensures.illegal; wanted = c.in_default-first_wrong.ensures.wrong };
      slack = subst (λ x. IsSlack c.args.p.now c.args.cert.now.placement.cells x) same c.slack-real.ensures.slack;
    }
