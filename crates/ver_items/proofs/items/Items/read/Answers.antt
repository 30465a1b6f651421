use Rattle.std.proofs.Common.{◌≡◌, ◌==◌, ◌++◌, false, not, length, List, [], unwrap_or, sym, ap, subst, ◌∙◌, rules}
use Rattle.ver_syntax.specs.declared.row.Place.TheVariants.{Start}
use Rattle.ver_syntax.specs.declared.row.Row.{Row}
use Rattle.ver_items.specs.Sections.{sections, stands_in}
use Rattle.ver_items.specs.SectionSteps.{AreLinked, AtStart, section_in}
use Rattle.ver_items.proofs.CutLemmas.{item_cut, nothing_left}
use Rattle.ver_items.proofs.ItemLemmas.{rows_linked, rows_at_start}
use Rattle.ver_items.proofs.items.Items.read.Goals as goal

pub invariant_of-self : goal.invariant_of-self
invariant_of-self c =
    let i = item_cut c.self.inside.rows (unwrap_or c.in-Ok.others c.read_item.new.room.held.items) c.read_item.new.rows c.in-Ok.ensures.cut c.in-Ok.ensures.ends c.self.invariant.0 c.self.invariant.1 in
    (i.linked, i.start)

pub invariant_of-self-in-Err : goal.invariant_of-self-in-Err
invariant_of-self-in-Err c = (subst AreLinked (sym c.new-self-inside.ensures) (rows_linked []), subst AtStart (sym c.new-self-inside.ensures) (rows_at_start []))

pub returns-in-Ok-clause-next : goal.returns-in-Ok-clause-next
returns-in-Ok-clause-next c =
    let i = item_cut c.self.inside.rows (unwrap_or c.in-Ok.others c.read_item.new.room.held.items) c.read_item.new.rows c.in-Ok.ensures.cut c.in-Ok.ensures.ends c.self.invariant.0 c.self.invariant.1 in
    sym c.self.view_is ∙ i.sections ∙ ap (λ (rows : List Row). section_in rows ++ sections (stands_in Start) c.read_item.new.rows) (sym c.in_place-item-inside.ensures)

pub returns-in-Ok-clause-end : goal.returns-in-Ok-clause-end
returns-in-Ok-clause-end c = λ h.
    let all = unwrap_or c.in-Ok.others c.read_item.new.room.held.items in
    let e : c.is_empty.result ≡ (length all == 0) = search rules in
    let t : not (length all == 0) ≡ false = ap not (sym e) ∙ h in
    sym c.self.view_is ∙ nothing_left c.self.inside.rows all c.read_item.new.rows c.in-Ok.ensures.cut c.in-Ok.ensures.ends t
