use Rattle.std.proofs.Common.{◌≡◌, vec_len}
use Rattle.tests_engine.proofs.pool_rows.draw_rows.Given as goal

abbrev pub invariant-rows : goal.invariant-rows
invariant-rows l = vec_len l.rows ≡ l.at
