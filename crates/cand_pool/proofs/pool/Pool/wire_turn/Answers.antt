use Rattle.std.proofs.Common.{rules, ◌∙◌, to_z-of_z}
use Rattle.std.specs.Int.{w128}
use Rattle.cand_pool.proofs.PoolMoves.{live_low, held_live}
use Rattle.cand_pool.proofs.WireLaws.{wire_turned, turn_fewer}
use Rattle.cand_pool.proofs.pool.Pool.wire_turn.Goals as goal

pub after_wire-q-requires-clause-there : goal.after_wire-q-requires-clause-there
after_wire-q-requires-clause-there g c = live_low c.args.self.now c.args.at.now.rest.first (held_live c.args.self.now c.args.at.now.rest.first c.args.at.now.rest.last _ c.requires.three.more) c.requires.some

pub returns-clause-wiring : goal.returns-clause-wiring
returns-clause-wiring g c = λ s list all w.
    let q_is = to_z-of_z {w = w128} {z = c.after_wire-q.result.0} (search rules) ∙ c.after_wire-q.ensures.q in
    wire_turned c.args.r c.args.c s list all c.args.self.now c.turn.new.self c.args.at.now c.turn.new.at _ _ w c.requires.some q_is c.after_wire-q.ensures.c c.turn.ensures

pub returns-clause-fewer : goal.returns-clause-fewer
returns-clause-fewer g c = turn_fewer c.args.self.now c.turn.new.self c.args.at.now c.turn.new.at _ _ _ _ _ c.requires.three c.requires.some c.turn.ensures
