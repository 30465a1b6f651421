use Rattle.std.proofs.Common.{arith}
use Rattle.sol_arena.specs.Arenas.{slots_of}
use Rattle.vg_front.specs.Parts.{all_held}
use Rattle.vg_front.proofs.HeldLemmas.{given_then}
use Rattle.vg_front.proofs.ClimbLemmas.{given_on}
use Rattle.vg_front.proofs.climb.climb.Goals as goal

pub nodes-preserved : goal.nodes-preserved
nodes-preserved c = record {
  some = omega (arith, c.in_ok-turn.ensures.fewer, c.nodes-test.true, c.len.ensures);
  within = omega (arith, c.in_ok-turn.ensures.fewer, c.nodes.invariant.within);
  given = given_on c.args.arena.now c.nodes.arena c.turn.new.arena (all_held c.args.parts.now.items) (all_held c.nodes.parts.items)
      (all_held c.turn.new.parts.items) c.nodes.invariant.given c.in_ok-turn.ensures.given;
  parts = c.in_ok-turn.ensures.parts;
}

pub returns-in_err-turn-clause-given : goal.returns-in_err-turn-clause-given
returns-in_err-turn-clause-given c =
    given_then (slots_of c.args.arena.now) (slots_of c.nodes.arena) (slots_of c.turn.new.arena) (all_held c.args.parts.now.items)
    (all_held c.nodes.parts.items)
    (all_held c.turn.new.parts.items) c.nodes.invariant.given.given c.in_err-turn.ensures.given
