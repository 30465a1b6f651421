use Rattle.std.proofs.Common.{[], ◌++◌, arith}
use Rattle.sol_arena.specs.Arenas.{slots_of}
use Rattle.vg_front.proofs.HeldLemmas.{uses_both, held_as, given_beside, given_as, given_held, given_then}
use Rattle.vg_front.proofs.branch.Branch.give_up.Goals as goal

pub give_up-requires-2 : goal.give_up-requires-2
give_up-requires-2 c =
    held_as (slots_of c.give_up.new.arena) (c.args.self.odd.items ++ []) c.args.self.odd.items (λ s. omega (arith, uses_both c.args.self.odd.items [] s))
    (given_held (slots_of c.args.arena.now) (slots_of c.give_up.new.arena) (c.args.self.odd.items ++ c.args.self.even.items) (c.args.self.odd.items ++ [])
    (held_as (slots_of c.args.arena.now) (c.args.self.even.items ++ c.args.self.odd.items) (c.args.self.odd.items ++ c.args.self.even.items)
    (λ s. omega (arith, uses_both c.args.self.even.items c.args.self.odd.items s, uses_both c.args.self.odd.items c.args.self.even.items s))
    c.requires.held)
    (given_beside (slots_of c.args.arena.now) (slots_of c.give_up.new.arena) c.args.self.odd.items c.args.self.even.items [] c.give_up.ensures))

pub returns : goal.returns
returns c = record {
  given =
      given_then (slots_of c.args.arena.now) (slots_of c.give_up.new.arena) (slots_of c.give_up-2.new.arena)
      (c.args.self.even.items ++ c.args.self.odd.items)
      c.args.self.odd.items []
      (given_as (slots_of c.args.arena.now) (slots_of c.give_up.new.arena) (c.args.self.odd.items ++ c.args.self.even.items)
      (c.args.self.even.items ++ c.args.self.odd.items)
      (c.args.self.odd.items ++ []) c.args.self.odd.items
      (λ s. omega (arith, uses_both c.args.self.even.items c.args.self.odd.items s, uses_both c.args.self.odd.items c.args.self.even.items s))
      (λ s. omega (arith, uses_both c.args.self.odd.items [] s))
      (given_beside (slots_of c.args.arena.now) (slots_of c.give_up.new.arena) c.args.self.odd.items c.args.self.even.items [] c.give_up.ensures))
      c.give_up-2.ensures;
}
