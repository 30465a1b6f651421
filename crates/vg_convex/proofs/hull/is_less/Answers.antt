use Rattle.std.proofs.Common.{rules, ◌-ℤ◌}
use Rattle.std.specs.Int.{w128}
use mir.Val.{SFits}
use Rattle.std.proofs.lemmas.Int.{to_z-of_z}
use Rattle.vg_convex.specs.Places.{pair_in}
use Rattle.vg_convex.proofs.Lines.{loses}
use Rattle.vg_convex.proofs.hull.is_less.Goals as goal

pub returns-clause-order : goal.returns-clause-order
returns-clause-order g c =
    let a : SFits w128 c.args.a.q = search rules in
    let b : SFits w128 c.args.b.q = search rules in
    let lost : SFits w128 c.loss.result = search rules in
    let gain : SFits w128 (c.args.b.q -ℤ c.args.a.q) = search rules in
    rw (
      to_z-of_z w128 c.args.a.q a,
      to_z-of_z w128 c.args.b.q b,
      to_z-of_z w128 c.loss.result lost,
      to_z-of_z w128 (c.args.b.q -ℤ c.args.a.q) gain,
    ) (loses c.args.r (pair_in c.args.a) (pair_in c.args.b) c.loss.result c.requires.a_b c.loss.ensures)
