use Rattle.std.proofs.Common.{◌++◌, ap, ◌∙◌}
use Rattle.vg_change.specs.Placed.{rewires_in}
use Rattle.vg_change.specs.Steps.{placed_by}
use Rattle.vg_change.proofs.ListLemmas.{flat_more}
use Rattle.vg_change.proofs.rewires.push_rewires.Goals as goal

pub stage-preserved : goal.stage-preserved
stage-preserved c =
    let f = rewires_in c.args.design.now.netlist (placed_by c.args.pinned.now.net c.args.x.now) c.args.x.now in
    c.in_ok-push_rewires_in.ensures ∙ ap (λ xs. xs ++ f c.stage.stage) c.stage.invariant ∙ flat_more f c.args.to.now c.stage.stage
