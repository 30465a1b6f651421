use Rattle.std.proofs.Common.{refl, ap, ◌∙◌, arith}
use Rattle.sol_arena.specs.Slots.{none, made_in}
use Rattle.sol_arena.specs.Invariant.{is_free}
use Rattle.sol_arena.proofs.CountLemmas.{made_read, is_there, first_free, free_form, length-made_in}
use Rattle.sol_arena.proofs.make.put.Goals as goal

pub index-requires : goal.index-requires
index-requires c =
    omega (arith, length-made_in c.args.slots.now.items, is_there (made_in c.args.slots.now.items) c.args.free.now is_free refl (first_free c.args.slots.now.items c.args.free.now none c.requires c.if-first.false))

pub unreachable-requires : goal.unreachable-requires
unreachable-requires c =
    let is = first_free c.args.slots.now.items c.args.free.now none c.requires c.if-first.false in
    let (next, form) = free_form _ is in
    c.in_default.not-Free next (ap (λ slot. slot.made) c.index.ensures ∙ made_read c.args.slots.now.items c.args.free.now _ (omega (arith, length-made_in c.args.slots.now.items, is_there (made_in c.args.slots.now.items) c.args.free.now is_free refl is)) ∙ form)
