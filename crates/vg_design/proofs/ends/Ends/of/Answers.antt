use Rattle.std.proofs.Common.{ap, sym, subst, length, arith}
use Rattle.spef_nodes.specs.Members.{AreApart}
use Rattle.vg_design.proofs.EndLemmas.{all_apart, ends_size}
use Rattle.vg_design.proofs.ends.Ends.of.Goals as goal

pub invariant_of-result : goal.invariant_of-result
invariant_of-result c =
    let size = ends_size c.args.net.now in
    let table = ap length c.in_ok-table.ensures in
    (subst AreApart (sym c.in_ok-table.ensures) (all_apart c.args.net.now), omega (arith, size, table, c.in_ok-pins.ensures, c.len.ensures))
