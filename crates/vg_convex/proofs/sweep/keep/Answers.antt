use Rattle.std.proofs.Common.{rules, ◌≡◌, ◌-◌, ◌<ℤ◌, length, set, ap, arith}
use Rattle.std.specs.Int.{w128}
use mir.Val.{SFits}
use Rattle.std.proofs.lemmas.Int.{ints, to_z-of_z}
use Rattle.vg_convex.proofs.Sweeps.{kept_instead}
use Rattle.vg_convex.proofs.sweep.keep.Goals as goal

pub returns-then-made-last-2-clause-kept : goal.returns-then-made-last-2-clause-kept
returns-then-made-last-2-clause-kept c =
    let made_fits : SFits w128 c.args.made.pair.q = search rules in
    let last_fits : SFits w128 c.args.last.q = search rules in
    let more : c.args.last.q <ℤ c.args.made.pair.q
    = (let less = rw (to_z-of_z w128 c.args.made.pair.q made_fits, to_z-of_z w128 c.args.last.q last_fits) at c.if-made-last.false in omega (arith, ints, less)) in
    let same : c.len-end.result ≡ length c.args.kept.now.items = omega (arith, c.len-end.ensures) in
    kept_instead c.args.kept.now.items c.args.last c.args.made (set c.args.kept.now.items (c.len-end.result - 1) c.args.made) c.requires more c.if-made-last-2.true
    (ap (λ n. set c.args.kept.now.items (n - 1) c.args.made) same)
