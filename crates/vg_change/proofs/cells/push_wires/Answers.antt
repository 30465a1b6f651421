use Rattle.std.proofs.Common.{◌++◌, ◌∷◌, [], ap, ◌∙◌, arith}
use Rattle.vg_split.specs.NewNames.{net_name}
use Rattle.vg_split.specs.Splits.{number_of}
use Rattle.vg_change.proofs.ListLemmas.{made_more}
use Rattle.vg_change.proofs.cells.push_wires.Goals as goal

pub stage-preserved : goal.stage-preserved
stage-preserved c = record {
  some = omega arith;
  put =
      c.in_ok-push.ensures.last ∙ ap (λ xs. xs ++ c.deref.result.now ∷ []) c.stage.invariant.put
      ∙ made_more (λ k. net_name c.args.x.now.prefix (number_of c.args.x.now k)) _ c.deref.result.now c.stage.stage c.stage.invariant.some
      (c.deref.ensures.value ∙ c.in_ok-put_wire.ensures);
}
