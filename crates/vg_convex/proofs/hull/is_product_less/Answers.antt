use Rattle.std.proofs.Common.{rules, refl, ◌*ℤ◌}
use Rattle.std.specs.Int.{w128}
use mir.Val.{SFits}
use Rattle.std.proofs.lemmas.Int.{to_z-of_z}
use Rattle.vg_convex.proofs.hull.is_product_less.Goals as goal

pub returns : goal.returns
returns c =
    let a : SFits w128 c.args.a_q = search rules in
    let b : SFits w128 c.args.b_q = search rules in
    let a_c : SFits w128 c.from.result = search rules in
    let b_c : SFits w128 c.from-2.result = search rules in
    let x : SFits w128 (c.args.a_q *ℤ c.from.result) = search rules in
    let y : SFits w128 (c.args.b_q *ℤ c.from-2.result) = search rules in
    rw (
      to_z-of_z w128 c.args.a_q a,
      to_z-of_z w128 c.from.result a_c,
      to_z-of_z w128 c.args.b_q b,
      to_z-of_z w128 c.from-2.result b_c,
      to_z-of_z w128 (c.args.a_q *ℤ c.from.result) x,
      to_z-of_z w128 (c.args.b_q *ℤ c.from-2.result) y,
      c.from.ensures,
      c.from-2.ensures,
    ) refl
