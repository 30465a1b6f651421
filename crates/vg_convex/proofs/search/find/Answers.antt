use Rattle.std.proofs.Common.{◌≡◌, ◌≤◌, length, sym, arith}
use Rattle.std.proofs.lemmas.Bool.{eqb-true}
use Rattle.vg_convex.proofs.Numbers.{modest_point}
use Rattle.vg_convex.proofs.Finds.{none_found, point_found, stack_size}
use Rattle.vg_convex.proofs.search.find.Goals as goal

pub returns-then-is_empty-clause-found : goal.returns-then-is_empty-clause-found
returns-then-is_empty-clause-found g c =
    let (n, h, cut) = c.requires.1 in
    let empty : length c.args.stack.now ≡ 0 = eqb-true (length c.args.stack.now) 0 (sym c.if-is_empty.ensures) in
    none_found g.xs n c.args.stack.now c.args.rep.now h cut empty

pub made_of-requires : goal.made_of-requires
made_of-requires g c =
    let (n, h, cut) = c.requires.1 in
    let (i, at, best) = c.greatest_on-point.ensures.greatest n h in
    modest_point g.xs c.greatest_on-point.result i h.modest at

pub returns-clause-found : goal.returns-clause-found
returns-clause-found g c =
    let (n, h, cut) = c.requires.1 in
    let (i, at, best) = c.greatest_on-point.ensures.greatest n h in
    point_found g.xs n c.args.rep.now i c.greatest_on-point.result c.made_of.result h.rise cut at best c.made_of.ensures.tag c.made_of.ensures.time

pub returns-clause-cost : goal.returns-clause-cost
returns-clause-cost g c = λ d less.
    let (n, h, cut) = c.requires.1 in
    let few : length c.args.stack.now ≤ length g.xs = stack_size g.xs n c.args.stack.now h in
    c.greatest_on-point.ensures.cost d (omega (arith, few, less))
