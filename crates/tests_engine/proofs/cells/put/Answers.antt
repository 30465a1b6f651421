use Rattle.std.proofs.Common.{rules, to_z-of_z, to_z, of_z, pos}
use Rattle.std.specs.Prelude.{◌+ℤ◌}
use Rattle.std.specs.Int.{w128}
use Rattle.tests_engine.proofs.ReadyLaws.{listed_more}
use Rattle.tests_engine.proofs.cells.put.Goals as goal

pub returns : goal.returns
returns c = λ s n listed.
    let e = to_z-of_z {w = w128} {z = c.args.pair.q} (search rules) in
    let f = to_z-of_z {w = w128} {z = to_z w128 (of_z w128 c.args.pair.q) +ℤ pos 1} (search rules) in
    let over = c.if-not-over.false in
    rw f (listed_more _ _ _ c.args.list.now c.push.new.list c.args.floor n (to_z w128 (of_z w128 c.args.pair.q)) c.args.pair.c listed
    (record { time = rw e (c.is_over-over.ensures.time over); load = c.is_over-over.ensures.load over; early = rw e (c.is_over-over.ensures.early over); light = c.is_over-over.ensures.light over })
    c.push.ensures.list c.push.ensures.others c.push.ensures.spare)
