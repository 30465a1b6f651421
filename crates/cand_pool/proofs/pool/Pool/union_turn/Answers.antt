use Rattle.std.proofs.Common.{rules, ◌∙◌, ap, arith, length, to_z-of_z}
use Rattle.std.specs.Int.{w128}
use Rattle.cand_pool.proofs.PoolMoves.{live_low, held_live}
use Rattle.cand_pool.proofs.WireLaws.{named_sieve}
use Rattle.cand_pool.proofs.UnionLaws.{other_sieve, rest_beside, first_turned, second_turned, fewer, beside_same, passed_same}
use Rattle.cand_pool.proofs.pool.Pool.union_turn.Goals as goal

pub comes_first-requires-clause-y : goal.comes_first-requires-clause-y
comes_first-requires-clause-y g c = live_low _ c.args.at.now.other.first (held_live _ _ _ _ c.requires.left.other.held) c.requires.two

pub comes_first-requires-clause-x : goal.comes_first-requires-clause-x
comes_first-requires-clause-x g c = live_low _ c.args.at.now.sieve.rest.first (held_live _ _ _ _ c.requires.left.sieve.more) c.requires.one

pub look-x-requires : goal.look-x-requires
look-x-requires g c = record { there = live_low _ c.args.at.now.other.first (held_live _ _ _ _ c.requires.left.other.held) c.requires.two }

pub look-x-requires-else-comes_first : goal.look-x-requires-else-comes_first
look-x-requires-else-comes_first g c = record { there = live_low _ c.args.at.now.sieve.rest.first (held_live _ _ _ _ c.requires.left.sieve.more) c.requires.one }

pub pass-requires-clause-three : goal.pass-requires-clause-three
pass-requires-clause-three g c = named_sieve _ _ _ _ _ _ _ (other_sieve _ _ _ _ _ _ _ c.requires.left.sieve c.requires.left.other)

pub pass-requires-else-comes_first-clause-three : goal.pass-requires-else-comes_first-clause-three
pass-requires-else-comes_first-clause-three g c = named_sieve _ _ _ _ _ _ _ c.requires.left.sieve

pub returns-then-comes_first-clause-uniting : goal.returns-then-comes_first-clause-uniting
returns-then-comes_first-clause-uniting g c = λ s one two all w.
    let q_is = to_z-of_z {w = w128} {z = c.look-x.result.q} (search rules) ∙ c.look-x.ensures.q in
    second_turned s one two all _ _ c.args.at.now c.pass.new.at w c.requires.one c.requires.two c.if-comes_first.ensures (passed_same _ _ _ _ _ q_is c.pass.ensures)

pub returns-then-comes_first-clause-fewer : goal.returns-then-comes_first-clause-fewer
returns-then-comes_first-clause-fewer g c =
    let q_is = to_z-of_z {w = w128} {z = c.look-x.result.q} (search rules) ∙ c.look-x.ensures.q in
    let left = c.requires.left in
    let sieve = other_sieve _ _ _ _ _ _ _ left.sieve left.other in
    let beside = rest_beside _ _ _ _ _ _ _ left.sieve left.other in
    let turn = passed_same _ _ _ _ _ q_is c.pass.ensures in
    let less = fewer _ _ _ c.pass.new.at _ _ _ sieve c.requires.two turn in
    let same = ap length (beside_same _ _ _ c.pass.new.at c.args.at.now.sieve.rest _ _ _ _ sieve beside c.requires.two turn) in
    omega arith

pub returns-else-comes_first-clause-uniting : goal.returns-else-comes_first-clause-uniting
returns-else-comes_first-clause-uniting g c = λ s one two all w.
    let q_is = to_z-of_z {w = w128} {z = c.look-x-else-comes_first.result.q} (search rules) ∙ c.look-x-else-comes_first.ensures.q in
    first_turned s one two all _ _ c.args.at.now c.pass-else-comes_first.new.at w c.requires.one c.requires.two c.if-comes_first.ensures (passed_same _ _ _ _ _ q_is c.pass-else-comes_first.ensures)

pub returns-else-comes_first-clause-fewer : goal.returns-else-comes_first-clause-fewer
returns-else-comes_first-clause-fewer g c =
    let q_is = to_z-of_z {w = w128} {z = c.look-x-else-comes_first.result.q} (search rules) ∙ c.look-x-else-comes_first.ensures.q in
    let left = c.requires.left in
    let turn = passed_same _ _ _ _ _ q_is c.pass-else-comes_first.ensures in
    let less = fewer _ _ c.args.at.now.sieve c.pass-else-comes_first.new.at _ _ _ left.sieve c.requires.one turn in
    let same = ap length (beside_same _ _ c.args.at.now.sieve c.pass-else-comes_first.new.at c.args.at.now.other _ _ _ _ left.sieve left.other c.requires.one turn) in
    omega arith
