use Rattle.std.proofs.Common.{◌++◌, ◌∷◌, [], refl, ap, ◌∙◌, arith}
use Rattle.vg_change.specs.Placed.{new_cell}
use Rattle.vg_change.proofs.ListLemmas.{made_more}
use Rattle.vg_change.proofs.cells.push_cells.Goals as goal

pub stage-preserved : goal.stage-preserved
stage-preserved c =
    let made = new_cell c.args.netlist.now c.args.id c.args.x.now in
    record {
      some = omega arith;
      put = c.in_ok-push_cell.ensures ∙ ap (λ xs. xs ++ made c.stage.stage ∷ []) c.stage.invariant.put ∙ made_more made _ (made c.stage.stage) c.stage.stage c.stage.invariant.some refl;
    }
