use Rattle.std.proofs.Common.{[]}
use Rattle.sol_arena.specs.Arenas.{slots_of}
use Rattle.vg_front.proofs.HeldLemmas.{given_then}
use Rattle.vg_front.proofs.make.make_all.Goals as goal

pub returns-then-is_err-clause-given : goal.returns-then-is_err-clause-given
returns-then-is_err-clause-given c =
    given_then (slots_of c.args.arena.now) (slots_of c.make_each.new.arena) (slots_of c.give_up.new.arena) [] c.make_each.new.made.items []
    c.make_each.ensures.given
    c.give_up.ensures
