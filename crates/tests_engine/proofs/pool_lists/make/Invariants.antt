use Rattle.tests_engine.proofs.RowLaws.{IsMaking}
use Rattle.tests_engine.specs.declared.pool_rows.Row.{Row}
use Rattle.tests_engine.proofs.pool_lists.make.Given as goal

abbrev pub invariant-rows : goal.invariant-rows
invariant-rows l = IsMaking (λ (row : Row). row.q) l.rows l.fn.pool l.pool l.list l.row-index
