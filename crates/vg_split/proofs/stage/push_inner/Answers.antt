use Rattle.std.proofs.Common.{◌<◌, length, sym, ap, subst, arith}
use Rattle.std.specs.List.{AllPass}
use Rattle.std.proofs.lemmas.List.Elements.{All-get_or}
use Rattle.spef_net.specs.Nets.{IsNamed}
use Rattle.vg_scan.specs.Printed.{is_solid}
use Rattle.spef_write.specs.Sections.{NO_NODE}
use Rattle.vg_split.specs.Splits.{Split as SplitSpec}
use Rattle.vg_split.proofs.stage.push_inner.Goals as goal

pub push-requires-clause-leaf : goal.push-requires-clause-leaf
push-requires-clause-leaf c =
    let par = c.x.inside.par.now in
    let low : c.old-old.result < length par.nodes = omega (arith, c.old-old.ensures.within, ap (λ (y : SplitSpec). length y.par.nodes) c.x.view_is) in
    subst (AllPass is_solid) (sym (c.leaf.ensures NO_NODE)) (All-get_or IsNamed par.nodes c.old-old.result NO_NODE low par.sound.nodes_named).1
