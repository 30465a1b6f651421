use Rattle.std.proofs.Common.{ℕ, List, ap}
use Rattle.lib_cells.specs.PinTables.{pins_in}
use Rattle.lib_cells.proofs.pin_rows.PinTable.new.Goals as goal

pub returns-clause-pins : goal.returns-clause-pins
unfolding pins_in
returns-clause-pins c = ap (λ (names : List (List ℕ)). pins_in c.new-3.result.items names c.new-2.result.items) c.new.ensures
