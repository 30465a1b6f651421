use Rattle.std.proofs.Common.{◌+◌, ◌∷◌, [], take, unwrap_or, refl, sym, subst, ◌∙◌}
use Rattle.ver_items.specs.SectionSteps.{IsItem}
use Rattle.ver_items.proofs.ItemLemmas.{last_item, whole_item}
use Rattle.ver_items.proofs.StretchLemmas.{IsHeld, IsRead, more_read, none_held, none_next, none_read, part_read, read_cut, read_others, still_held}
use Rattle.ver_items.proofs.items.read_item.Goals as goal

pub row-init : goal.row-init
row-init c = record {
  start = c.again-start.ensures;
  read = subst (IsRead c.again-start.result 0) c.again-start.ensures (none_read c.again-start.result);
  none = refl;
  held = none_held c.again-start.result c.clear.new.self.items c.clear.ensures.items;
}

pub not_held-requires-clause-held : goal.not_held-requires-clause-held
not_held-requires-clause-held c =
    let i = c.row.invariant in
    let held = still_held c.again-start.result c.row.rows (c.in-Some.row ∷ []) c.next.new.self c.row.room.held.items c.hold_next.new.room.held.items c.row.count
    i.read c.in-Some.ensures.steps i.held c.in_ok-hold_next.ensures in
    rw c.deref.ensures.value held.first

pub not_held-requires-clause-within : goal.not_held-requires-clause-within
not_held-requires-clause-within c =
    let i = c.row.invariant in
    let held = still_held c.again-start.result c.row.rows (c.in-Some.row ∷ []) c.next.new.self c.row.room.held.items c.hold_next.new.room.held.items c.row.count
    i.read c.in-Some.ensures.steps i.held c.in_ok-hold_next.ensures in
    rw (c.deref.ensures.value, c.in_ok-count.ensures) held.within

pub returns-then-is-clause-cut : goal.returns-then-is-clause-cut
returns-then-is-clause-cut c =
    let i = c.row.invariant in
    let start = c.again-start.result in
    let more = more_read start c.row.rows (c.in-Some.row ∷ []) c.next.new.self c.row.count i.read c.in-Some.ensures.steps in
    read_cut c.args.rows.now start c.next.new.self (unwrap_or c.not_held.result c.hold_next.new.room.held.items) (c.row.count + 1) i.start more
    (read_others c.not_held.result c.deref.result.now c.hold_next.new.room.held.items start c.in_ok-count.count (c.row.count + 1)
    c.deref.ensures.value c.in_ok-count.ensures c.not_held.ensures)

pub returns-then-is-clause-ends : goal.returns-then-is-clause-ends
returns-then-is-clause-ends c =
    let i = c.row.invariant in
    let start = c.again-start.result in
    let all = read_others c.not_held.result c.deref.result.now c.hold_next.new.room.held.items start c.in_ok-count.count (c.row.count + 1)
    c.deref.ensures.value c.in_ok-count.ensures c.not_held.ensures in
    let part = part_read start c.row.rows (c.in-Some.row ∷ []) c.next.new.self c.row.count i.read c.in-Some.ensures.steps in
    subst (λ rows. IsItem rows c.next.new.self) (sym (all ∙ part))
    (whole_item (take c.row.count start) c.next.new.self c.in-Some.row i.none (sym c.is.ensures ∙ c.if-is.true))

pub row-preserved : goal.row-preserved
row-preserved c =
    let i = c.row.invariant in
    let start = c.again-start.result in
    let row = c.in-Some.row in
    let more = more_read start c.row.rows (row ∷ []) c.next.new.self c.row.count i.read c.in-Some.ensures.steps in
    let part = part_read start c.row.rows (row ∷ []) c.next.new.self c.row.count i.read c.in-Some.ensures.steps in
    let held = still_held start c.row.rows (row ∷ []) c.next.new.self c.row.room.held.items c.hold_next.new.room.held.items c.row.count
    i.read c.in-Some.ensures.steps i.held c.in_ok-hold_next.ensures in
    let none = none_next (take c.row.count start) row i.none (sym c.is.ensures ∙ c.if-is.false) in
    record {
      start = i.start;
      read = subst (λ n. IsRead start n c.next.new.self) (sym c.in_ok-count.ensures) more;
      none = rw (c.in_ok-count.ensures, part) none;
      held = subst (λ n. IsHeld start n c.hold_next.new.room.held.items) (sym c.in_ok-count.ensures) held;
    }

pub returns-clause-ends : goal.returns-clause-ends
returns-clause-ends c =
    let i = c.row.invariant in
    let start = c.again-start.result in
    let all = read_others c.not_held-2.result c.deref-2.result.now c.row.room.held.items start c.row.count c.row.count c.deref-2.ensures.value refl c.not_held-2.ensures in
    subst (λ after. IsItem (unwrap_or c.not_held-2.result c.row.room.held.items) after) (sym c.in_default.ensures.steps.1)
    (subst (λ rows. IsItem rows []) (sym all) (last_item (take c.row.count start) i.none))
