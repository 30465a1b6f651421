use Rattle.std.proofs.Common.{arith, pos}
use Rattle.tests_engine.proofs.RowLaws.{rows_more}
use Rattle.tests_engine.specs.declared.pool_rows.Row.{Row}
use Rattle.tests_engine.proofs.pool_rows.rises.Goals as goal

pub rows-preserved : goal.rows-preserved
rows-preserved c = rows_more (λ (row : Row). row.q) c.args.rows.now c.rows.i (record { q = pos 0; c = 0; tag = 0 }) (omega arith) (omega arith) c.if-not-is_over.ensures c.rows.invariant
