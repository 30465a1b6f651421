use Rattle.std.proofs.Common.{◌≢◌, ◌<◌, arith}
use Rattle.sol_arena.specs.Slots.{none}
use Rattle.sol_arena.specs.Uses.{uses_of}
use Rattle.sol_arena.proofs.TurnLemmas.{giving_within, giving_used, read_uses, lessened}
use Rattle.sol_arena.proofs.release.turn.Goals.{else-sol-ne-NONE-via-then-sol-ne-NONE+else-index-eq1, else-sol-ne-NONE-via-else-sol-ne-NONE}
use Rattle.sol_arena.proofs.release.turn.Goals as goal

pub index-requires : goal.index-requires
index-requires c = omega (arith, giving_within c.args.slots.now.items c.args.free.now c.args.owed.now c.args.sol c.requires c.if-sol-ne-NONE.true)

pub returns-then-owed-eq-NONE : goal.returns-then-owed-eq-NONE
returns-then-owed-eq-NONE c =
    let more : c.args.sol ≢ none → 1 < uses_of c.args.slots.now.items c.args.sol = λ some. elim c.else-sol-ne-NONE.branch [
      | else-sol-ne-NONE-via-then-sol-ne-NONE+else-index-eq1 w ↦
          omega (arith, giving_used c.args.slots.now.items c.args.free.now c.args.owed.now c.args.sol c.requires some, read_uses c.args.slots.now.items c.args.sol w.index.result.now w.index.ensures (giving_within c.args.slots.now.items c.args.free.now c.args.owed.now c.args.sol c.requires some), w.if-index-eq1.false)
      | else-sol-ne-NONE-via-else-sol-ne-NONE w ↦ absurd (some w.if-sol-ne-NONE.false)
    ] in
    let after = lessened c.args.slots.now.items c.lessen.new.slots.items c.args.free.now c.args.owed.now c.args.sol c.requires c.lessen.ensures more in
    record { giving = after.0; turn = after.1; done = c.if-owed-eq-NONE.true }

pub pay_first-requires-clause-giving : goal.pay_first-requires-clause-giving
pay_first-requires-clause-giving c =
    let more : c.args.sol ≢ none → 1 < uses_of c.args.slots.now.items c.args.sol = λ some. elim c.else-sol-ne-NONE.branch [
      | else-sol-ne-NONE-via-then-sol-ne-NONE+else-index-eq1 w ↦
          omega (arith, giving_used c.args.slots.now.items c.args.free.now c.args.owed.now c.args.sol c.requires some, read_uses c.args.slots.now.items c.args.sol w.index.result.now w.index.ensures (giving_within c.args.slots.now.items c.args.free.now c.args.owed.now c.args.sol c.requires some), w.if-index-eq1.false)
      | else-sol-ne-NONE-via-else-sol-ne-NONE w ↦ absurd (some w.if-sol-ne-NONE.false)
    ] in
    (lessened c.args.slots.now.items c.lessen.new.slots.items c.args.free.now c.args.owed.now c.args.sol c.requires c.lessen.ensures more).0
