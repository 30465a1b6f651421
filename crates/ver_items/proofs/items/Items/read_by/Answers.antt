use Rattle.std.proofs.Common.{◌≡◌, ◌==◌, rules, ◌++◌, ◌<◌, not, length, [], List, unwrap_or, sym, ap, subst, ◌∙◌}
use Rattle.ver_syntax.specs.declared.row.Place.TheVariants.{Start}
use Rattle.ver_items.specs.SectionSteps.{AreLinked, AtStart, rows_in, section_in}
use Rattle.ver_items.specs.Sections.{Section, sections, stands_in}
use Rattle.ver_syntax.specs.Rows.{kinds_in}
use Rattle.ver_syntax.specs.Syntax.{AreModule}
use Rattle.ver_items.proofs.CutLemmas.{item_cut, nothing_left}
use Rattle.ver_items.proofs.ItemLemmas.{rows_linked, rows_at_start}
use Rattle.ver_items.proofs.RowLemmas.{none_on, no_rows, some_rows}
use Rattle.ver_syntax.specs.declared.row.Row.{Row}
use Rattle.ver_items.proofs.items.Items.read_by.Goals as goal

pub invariant_of-self : goal.invariant_of-self
invariant_of-self c = (subst AreLinked (sym c.new-self-inside.ensures) (rows_linked []), subst AtStart (sym c.new-self-inside.ensures) (rows_at_start []))

pub invariant_of-self-in-Err : goal.invariant_of-self-in-Err
invariant_of-self-in-Err c = (subst AreLinked (sym c.new-self-inside-in-Err.ensures) (rows_linked []), subst AtStart (sym c.new-self-inside-in-Err.ensures) (rows_at_start []))

pub invariant_of-self-else-not-can : goal.invariant_of-self-else-not-can
invariant_of-self-else-not-can c =
    let e = c.in-Ok.ensures in
    let all = unwrap_or c.in-Ok.others c.read_item_by.new.room.held.items in
    let i = item_cut c.self.inside.rows all c.read_item_by.new.rows e.cut (e.ends (search rules)) c.self.invariant.0 c.self.invariant.1 in
    (i.linked, i.start)

pub returns-then-is_empty-clause-end : goal.returns-then-is_empty-clause-end
returns-then-is_empty-clause-end c = λ end.
    let e = c.in-Ok.ensures in
    let all = unwrap_or c.in-Ok.others c.read_item_by.new.room.held.items in
    let count : c.is_empty.result ≡ (length all == 0) = search rules in
    let none = no_rows all (sym count ∙ c.if-is_empty.true) in
    (sym c.self.view_is ∙ nothing_left c.self.inside.rows all c.read_item_by.new.rows e.cut (e.ends (search rules)) (ap (λ (rows : List Row). not (length rows == 0)) none), c.in_place-item-inside.ensures ∙ none)

pub returns-else-is_empty-clause-next : goal.returns-else-is_empty-clause-next
returns-else-is_empty-clause-next c = λ item.
    let e = c.in-Ok.ensures in
    let all = unwrap_or c.in-Ok.others c.read_item_by.new.room.held.items in
    let i = item_cut c.self.inside.rows all c.read_item_by.new.rows e.cut (e.ends (search rules)) c.self.invariant.0 c.self.invariant.1 in
    let count : c.is_empty.result ≡ (length all == 0) = search rules in
    subst
    (λ (rows : List Row). (c.args.self.now ≡ section_in rows ++ sections (stands_in Start) c.read_item_by.new.rows) × (0 < length rows))
    (sym c.in_place-item-inside.ensures)
    (sym c.self.view_is ∙ i.sections, some_rows all (sym count ∙ c.if-is_empty.false))

pub returns-then-not-can-clause-refused : goal.returns-then-not-can-clause-refused
returns-then-not-can-clause-refused c = λ kinds h refused whole.
    let e = c.in-Ok.ensures in
    none_on kinds c.self.inside.rows (unwrap_or c.in-Ok.others c.read_item_by.new.room.held.items) c.read_item_by.new.rows c.self.invariant.1 e.cut (e.refused kinds h (search rules))
    (subst (λ (ss : List Section). AreModule (kinds ++ kinds_in (rows_in ss))) (sym c.self.view_is) whole)
