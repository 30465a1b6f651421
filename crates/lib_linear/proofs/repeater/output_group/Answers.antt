use Rattle.std.proofs.Common.{rules, tests, sym, ◌∙◌}
use Rattle.std.proofs.lemmas.Iterator.Consumers.{YieldsList-from_first}
use Rattle.std.proofs.lemmas.Iterator.Search.{find_from_yields_List}
use Rattle.lib_cells.specs.Cells.{direction_of, is_output, pin_groups}
use Rattle.lib_linear.proofs.RepeaterLemmas.{mapped_same}
use Rattle.lib_linear.proofs.repeater.output_group.Goals as goal

pub returns : goal.returns
returns c =
    sym (mapped_same c.find.result) ∙
    find_from_yields_List (λ pin. is_output (direction_of pin)) _ _ c.find.result c.find.ensures.ran
    (YieldsList-from_first (λ x. x) (λ left. left) (pin_groups c.args.cell.now) c.groups.ensures) (λ x b q k. search (rules, tests))
