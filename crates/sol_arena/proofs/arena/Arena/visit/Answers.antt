use Rattle.std.proofs.Common.{ap, ◌∙◌, arith}
use Rattle.sol_arena.specs.Slots.{is_solution}
use Rattle.sol_arena.proofs.CountLemmas.{made_read}
use Rattle.sol_arena.proofs.TurnLemmas.{read_made}
use Rattle.sol_arena.proofs.WalkLemmas.{visited_none, visited_cell, visited_join, left_within, own_found, last_push, made_form}
use Rattle.sol_arena.proofs.arena.Arena.visit.Goals as goal

pub returns-then-s-eq-NONE : goal.returns-then-s-eq-NONE
returns-then-s-eq-NONE c = visited_none c.args.self.now.slots.items c.args.self.now.free c.args.self.now.sound c.args.cells.now.items c.args.left.now.items c.args.s c.if-s-eq-NONE.true c.requires.live

pub index-requires : goal.index-requires
index-requires c = omega (arith, left_within c.args.self.now.slots.items c.args.self.now.free c.args.self.now.sound c.args.cells.now.items c.args.left.now.items c.args.s c.if-s-eq-NONE.false c.requires.live)

pub put_first-requires : goal.put_first-requires
put_first-requires c =
    let within = left_within c.args.self.now.slots.items c.args.self.now.free c.args.self.now.sound c.args.cells.now.items c.args.left.now.items c.args.s c.if-s-eq-NONE.false c.requires.live in
    let is = read_made c.args.self.now.slots.items c.args.s c.index.result.now _ c.index.ensures within c.in-Cell.is in
    let (x, found) = own_found c.args.self.now.slots.items c.args.self.now.free c.args.self.now.sound c.args.cells.now.items c.args.left.now.items c.args.s c.in-Cell.node c.in-Cell.rep c.in-Cell.below is c.requires.live in
    c.requires.below c.in-Cell.node x found

pub unreachable-requires : goal.unreachable-requires
unreachable-requires c =
    let within = left_within c.args.self.now.slots.items c.args.self.now.free c.args.self.now.sound c.args.cells.now.items c.args.left.now.items c.args.s c.if-s-eq-NONE.false c.requires.live in
    let same = ap (λ slot. slot.made) c.index.ensures ∙ made_read c.args.self.now.slots.items c.args.s _ within in
    made_form c.index.result.now.made (ap is_solution same ∙ c.requires.live c.args.s (last_push c.args.left.now.items c.args.s) c.if-s-eq-NONE.false) c.in_default.not-Cell c.in_default.not-Join

pub returns-in_ok-push-in-Cell : goal.returns-in_ok-push-in-Cell
returns-in_ok-push-in-Cell c =
    let within = left_within c.args.self.now.slots.items c.args.self.now.free c.args.self.now.sound c.args.cells.now.items c.args.left.now.items c.args.s c.if-s-eq-NONE.false c.requires.live in
    let is = read_made c.args.self.now.slots.items c.args.s c.index.result.now _ c.index.ensures within c.in-Cell.is in
    rw c.in_ok-push-in-Cell.ensures.items
    (visited_cell c.args.self.now.slots.items c.args.self.now.free c.args.self.now.sound c.args.cells.now.items c.args.left.now.items c.args.s c.in-Cell.node c.in-Cell.rep c.in-Cell.below c.put_first.new.cells.items c.if-s-eq-NONE.false is c.requires.live c.put_first.ensures.room c.put_first.ensures.put)

pub returns-in_ok-push-in-Join-2 : goal.returns-in_ok-push-in-Join-2
returns-in_ok-push-in-Join-2 c =
    let within = left_within c.args.self.now.slots.items c.args.self.now.free c.args.self.now.sound c.args.cells.now.items c.args.left.now.items c.args.s c.if-s-eq-NONE.false c.requires.live in
    let is = read_made c.args.self.now.slots.items c.args.s c.index.result.now _ c.index.ensures within c.in-Join.is in
    rw (c.in_ok-push-in-Join-2.ensures.items, c.in_ok-push-in-Join.ensures.items)
    (visited_join c.args.self.now.slots.items c.args.self.now.free c.args.self.now.sound c.args.cells.now.items c.args.left.now.items c.args.s c.in-Join.a c.in-Join.b c.if-s-eq-NONE.false is c.requires.live)
