use Rattle.std.proofs.Common.{◌==◌, length, sym, ap, ◌∙◌}
use Rattle.lib_cells.proofs.PinTableLemmas.{length-pins_in}
use Rattle.lib_cells.proofs.pin_rows.PinRows.is_empty.Goals as goal

pub returns : goal.returns
returns c =
    let table = c.self.inside.table in
    c.is_empty.ensures ∙ ap (λ n. n == 0) (sym (length-pins_in table.groups.items table.names table.numbers.items c.self.invariant.0.one_each) ∙ ap length c.self.view_is)
