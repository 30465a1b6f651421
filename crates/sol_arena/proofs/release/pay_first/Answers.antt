use Rattle.std.proofs.Common.{ap, ◌∙◌, arith}
use Rattle.sol_arena.proofs.CountLemmas.{made_read}
use Rattle.sol_arena.proofs.TurnLemmas.{first_owes, paid_first, read_made}
use Rattle.sol_arena.proofs.release.pay_first.Goals as goal

pub index-requires : goal.index-requires
index-requires c = omega (arith, (first_owes c.args.slots.now.items c.args.free.now c.args.owed.now _ c.requires.giving c.requires.some).3)

pub index_mut-requires : goal.index_mut-requires
index_mut-requires c = omega (arith, (first_owes c.args.slots.now.items c.args.free.now c.args.owed.now _ c.requires.giving c.requires.some).3)

pub unreachable-requires : goal.unreachable-requires
unreachable-requires c =
    let (to, next, is, within) = first_owes c.args.slots.now.items c.args.free.now c.args.owed.now _ c.requires.giving c.requires.some in
    c.in_default.not-Owed to next (ap (λ slot. slot.made) c.index.ensures ∙ made_read c.args.slots.now.items c.args.owed.now _ within ∙ is)

pub returns : goal.returns
returns c =
    let (to, next, is, within) = first_owes c.args.slots.now.items c.args.free.now c.args.owed.now _ c.requires.giving c.requires.some in
    paid_first c.args.slots.now.items c.args.free.now c.args.owed.now c.in-Owed.to c.in-Owed.next c.requires.giving c.requires.some (read_made c.args.slots.now.items c.args.owed.now c.index.result.now _ c.index.ensures within c.in-Owed.is)
