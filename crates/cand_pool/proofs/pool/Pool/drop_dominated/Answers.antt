use Rattle.std.proofs.Common.{rules, ◌∙◌, arith, to_z-of_z}
use Rattle.std.specs.Int.{w128}
use Rattle.cand_pool.proofs.PoolMoves.{live_low, held_live}
use Rattle.cand_pool.proofs.WireLaws.{named_sieve}
use Rattle.cand_pool.proofs.UnionLaws.{sifted_start, sifted_next, left_rises, over_all, over_none, fewer, passed_same}
use Rattle.cand_pool.proofs.pool.Pool.drop_dominated.Goals as goal

pub drops-init : goal.drops-init
drops-init g c = record { sifted = sifted_start c.args.self.now c.args.at.now c.requires.three; rises = c.requires.rises; steps = omega arith }

pub look-x-requires : goal.look-x-requires
look-x-requires g c = record { there = live_low _ c.drops.at.rest.first (held_live _ _ _ _ c.drops.invariant.sifted.sieve.more) c.drops-test.true }

pub pass-requires-clause-three : goal.pass-requires-clause-three
pass-requires-clause-three g c = named_sieve _ _ _ _ _ _ _ c.drops.invariant.sifted.sieve

pub drops-smaller : goal.drops-smaller
drops-smaller g c =
    let q_is = to_z-of_z {w = w128} {z = c.look-x.result.q} (search rules) ∙ c.look-x.ensures.q in
    let turn = passed_same _ _ c.drops.at c.pass.new.at _ q_is c.pass.ensures in
    let less = fewer _ _ c.drops.at c.pass.new.at _ _ _ c.drops.invariant.sifted.sieve c.drops-test.true turn in
    omega arith

pub drops-preserved : goal.drops-preserved
drops-preserved g c =
    let w = c.drops.invariant in
    let some = c.drops-test.true in
    let q_is = to_z-of_z {w = w128} {z = c.look-x.result.q} (search rules) ∙ c.look-x.ensures.q in
    let turn = passed_same _ _ c.drops.at c.pass.new.at _ q_is c.pass.ensures in
    let less = fewer _ _ c.drops.at c.pass.new.at _ _ _ w.sifted.sieve some turn in
    let step = c.look-x.ensures.step in
    let total = w.steps in
    record {
      sifted = sifted_next _ _ _ _ c.drops.at c.pass.new.at w.sifted some turn;
      rises = left_rises _ _ c.drops.at c.pass.new.at _ _ w.sifted.sieve some w.rises turn;
      steps = omega arith;
    }

pub returns-then-x-at-clause-over : goal.returns-then-x-at-clause-over
returns-then-x-at-clause-over g c =
    let w = c.drops.invariant in
    let q_is = to_z-of_z {w = w128} {z = c.look-x.result.q} (search rules) ∙ c.look-x.ensures.q in
    let best_is = to_z-of_z {w = w128} {z = c.drops.at.best} (search rules) in
    over_all _ c.drops.at.rest _ w.sifted.sieve.more c.drops-test.true w.rises (rw (q_is, best_is) at c.if-x-at.true)

pub returns-after-drops-clause-over : goal.returns-after-drops-clause-over
returns-after-drops-clause-over g c = over_none _ c.drops.at.rest _ c.drops.invariant.sifted.sieve.more c.drops-test.false
