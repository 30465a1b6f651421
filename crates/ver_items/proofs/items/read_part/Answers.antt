use Rattle.std.proofs.Common.{sym, subst, ◌∙◌}
use Rattle.ver_items.specs.SectionSteps.{IsItem}
use Rattle.ver_items.proofs.ItemLemmas.{last_item, whole_item}
use Rattle.ver_items.proofs.items.read_part.Goals as goal

pub returns-in_default-clause-ends : goal.returns-in_default-clause-ends
returns-in_default-clause-ends c = λ ended.
    subst (λ after. IsItem c.row.part.items after) (sym c.in_default.ensures.steps.1) (last_item c.row.part.items c.row.invariant.none)

pub returns-then-is-clause-ends : goal.returns-then-is-clause-ends
returns-then-is-clause-ends c = λ ended.
    subst (λ rows. IsItem rows c.next.new.self) (sym c.in_ok-push.ensures.items)
    (whole_item c.row.part.items c.next.new.self c.in-Some.row c.row.invariant.none (sym c.is.ensures ∙ c.if-is.true))
