use Rattle.std.proofs.Common.{ℕ, ◌<◌, get_or}
use Rattle.std.specs.Prelude.{◌<ℤ◌}
use Rattle.tests_engine.specs.declared.pool_rows.Row.{Row}
use Rattle.tests_engine.proofs.pool_rows.rises.Given as goal

abbrev pub invariant-rows : goal.invariant-rows
invariant-rows l = (k j : ℕ) (d : Row) → k < j → j < l.i → (get_or l.rows k d).q <ℤ (get_or l.rows j d).q
