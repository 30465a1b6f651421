use Rattle.std.proofs.Common.{sym, subst}
use Rattle.ver_items.specs.SectionSteps.{AreLinked, AtStart}
use Rattle.ver_items.proofs.ItemLemmas.{rows_linked, rows_at_start}
use Rattle.ver_items.proofs.items.Items.new.Goals as goal

pub invariant_of-result : goal.invariant_of-result
invariant_of-result c = (subst AreLinked (sym c.new.ensures) (rows_linked c.args.text.now), subst AtStart (sym c.new.ensures) (rows_at_start c.args.text.now))
