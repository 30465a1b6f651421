use Rattle.std.proofs.Common.{◌≡◌, ◌+◌, ◌++◌, true, length, take, unwrap_or, rules, refl, sym, ap, subst, ◌∙◌}
use Rattle.ver_syntax.specs.Reading.{HasKinds}
use Rattle.ver_syntax.specs.Rows.{kinds_in}
use Rattle.ver_syntax.specs.Syntax.{BeginNoModule}
use Rattle.ver_items.specs.SectionSteps.{IsItem}
use Rattle.ver_items.proofs.StretchLemmas.{IsHeld, IsRead, item_more, kinds_on, more_read, none_held, none_more, none_read, part_read, read_cut, read_others, still_held}
use Rattle.ver_items.proofs.items.read_item_by.Goals as goal
use Rattle.ver_items.proofs.items.read_item_by.Goals.{then-ended-via-then-ended, then-ended-via-else-ended+then-not-can}

pub part-init : goal.part-init
part-init c = record {
  start = c.again-start.ensures;
  read = subst (IsRead c.again-start.result 0) c.again-start.ensures (none_read c.again-start.result);
  none = refl;
  held = none_held c.again-start.result c.clear.new.self.items c.clear.ensures.items;
  kinds = λ kinds h. subst (λ ks. HasKinds ks c.args.machine.now) (search rules) h;
}

pub not_held-requires-clause-held : goal.not_held-requires-clause-held
not_held-requires-clause-held c =
    let i = c.part.invariant in
    let held = still_held c.again-start.result c.part.rows c.read_part.new.part.items c.read_part.new.rows c.part.room.held.items c.hold.new.room.held.items c.part.count
    i.read c.in_ok-ended.ensures.cut i.held c.in_ok-hold.ensures.held in
    rw c.deref-then-ended.ensures.value held.first

pub not_held-requires-clause-within : goal.not_held-requires-clause-within
not_held-requires-clause-within c =
    let i = c.part.invariant in
    let part = c.read_part.new.part.items in
    let count : c.in_ok-count.count ≡ c.part.count + length part = search rules in
    let held = still_held c.again-start.result c.part.rows part c.read_part.new.rows c.part.room.held.items c.hold.new.room.held.items c.part.count
    i.read c.in_ok-ended.ensures.cut i.held c.in_ok-hold.ensures.held in
    rw (c.deref-then-ended.ensures.value, count) held.within

pub returns-then-ended-clause-cut : goal.returns-then-ended-clause-cut
returns-then-ended-clause-cut c =
    let i = c.part.invariant in
    let start = c.again-start.result in
    let part = c.read_part.new.part.items in
    let count : c.in_ok-count.count ≡ c.part.count + length part = search rules in
    let more = more_read start c.part.rows part c.read_part.new.rows c.part.count i.read c.in_ok-ended.ensures.cut in
    read_cut c.args.rows.now start c.read_part.new.rows (unwrap_or c.not_held.result c.hold.new.room.held.items) (c.part.count + length part) i.start more
    (read_others c.not_held.result c.deref-then-ended.result.now c.hold.new.room.held.items start c.in_ok-count.count (c.part.count + length part)
    c.deref-then-ended.ensures.value count c.not_held.ensures)

pub returns-then-ended-clause-ends : goal.returns-then-ended-clause-ends
returns-then-ended-clause-ends c = λ can.
    let i = c.part.invariant in
    let start = c.again-start.result in
    let part = c.read_part.new.part.items in
    let count : c.in_ok-count.count ≡ c.part.count + length part = search rules in
    let all = read_others c.not_held.result c.deref-then-ended.result.now c.hold.new.room.held.items start c.in_ok-count.count (c.part.count + length part)
    c.deref-then-ended.ensures.value count c.not_held.ensures
    ∙ part_read start c.part.rows part c.read_part.new.rows c.part.count i.read c.in_ok-ended.ensures.cut in
    let ended : c.in_ok-ended.ended ≡ true = elim c.then-ended.branch [ then-ended-via-then-ended w ↦ w.if-ended.true | then-ended-via-else-ended+then-not-can w ↦ search rules ] in
    subst (λ rows. IsItem rows c.read_part.new.rows) (sym all)
    (item_more (take c.part.count start) part c.read_part.new.rows i.none (c.in_ok-ended.ensures.ends ended))

pub returns-then-ended-clause-kinds : goal.returns-then-ended-clause-kinds
returns-then-ended-clause-kinds c = λ kinds h.
    let i = c.part.invariant in
    let start = c.again-start.result in
    let part = c.read_part.new.part.items in
    let count : c.in_ok-count.count ≡ c.part.count + length part = search rules in
    let all = read_others c.not_held.result c.deref-then-ended.result.now c.hold.new.room.held.items start c.in_ok-count.count (c.part.count + length part)
    c.deref-then-ended.ensures.value count c.not_held.ensures
    ∙ part_read start c.part.rows part c.read_part.new.rows c.part.count i.read c.in_ok-ended.ensures.cut in
    subst (λ ks. HasKinds ks c.read_rows.new.self)
    (kinds_on kinds (take c.part.count start) part c.deref.result.now (unwrap_or c.not_held.result c.hold.new.room.held.items)
    (c.deref.ensures.value ∙ c.in_ok-hold.ensures.part) all)
    (c.in_ok-can.ensures.kinds (kinds ++ kinds_in (take c.part.count start)) (i.kinds kinds h))

pub returns-then-ended-clause-refused : goal.returns-then-ended-clause-refused
returns-then-ended-clause-refused c = λ kinds h refused.
    let i = c.part.invariant in
    let start = c.again-start.result in
    let part = c.read_part.new.part.items in
    let count : c.in_ok-count.count ≡ c.part.count + length part = search rules in
    let all = read_others c.not_held.result c.deref-then-ended.result.now c.hold.new.room.held.items start c.in_ok-count.count (c.part.count + length part)
    c.deref-then-ended.ensures.value count c.not_held.ensures
    ∙ part_read start c.part.rows part c.read_part.new.rows c.part.count i.read c.in_ok-ended.ensures.cut in
    subst BeginNoModule
    (kinds_on kinds (take c.part.count start) part c.deref.result.now (unwrap_or c.not_held.result c.hold.new.room.held.items)
    (c.deref.ensures.value ∙ c.in_ok-hold.ensures.part) all)
    (c.in_ok-can.ensures.refused (kinds ++ kinds_in (take c.part.count start)) (i.kinds kinds h) refused)

pub part-preserved : goal.part-preserved
part-preserved c =
    let i = c.part.invariant in
    let start = c.again-start.result in
    let part = c.read_part.new.part.items in
    let count : c.in_ok-count.count ≡ c.part.count + length part = search rules in
    let more = more_read start c.part.rows part c.read_part.new.rows c.part.count i.read c.in_ok-ended.ensures.cut in
    let all = part_read start c.part.rows part c.read_part.new.rows c.part.count i.read c.in_ok-ended.ensures.cut in
    let held = still_held start c.part.rows part c.read_part.new.rows c.part.room.held.items c.hold.new.room.held.items c.part.count
    i.read c.in_ok-ended.ensures.cut i.held c.in_ok-hold.ensures.held in
    record {
      start = i.start;
      read = subst (λ n. IsRead start n c.read_part.new.rows) (sym count) more;
      none = rw (count, all) (none_more (take c.part.count start) part i.none (c.in_ok-ended.ensures.none c.if-ended.false));
      held = subst (λ n. IsHeld start n c.hold.new.room.held.items) (sym count) held;
      kinds = λ kinds h.
          subst (λ ks. HasKinds ks c.read_rows.new.self)
          (kinds_on kinds (take c.part.count start) part c.deref.result.now (take c.in_ok-count.count start)
          (c.deref.ensures.value ∙ c.in_ok-hold.ensures.part) (ap (λ n. take n start) count ∙ all))
          (c.in_ok-can.ensures.kinds (kinds ++ kinds_in (take c.part.count start)) (i.kinds kinds h));
    }
