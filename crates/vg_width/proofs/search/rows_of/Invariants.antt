use Rattle.std.proofs.Common.{◌≡◌}
use Rattle.vg_width.proofs.SearchLemmas.{first_rows}
use Rattle.vg_width.proofs.search.rows_of.Given as goal

abbrev pub invariant-wires : goal.invariant-wires
invariant-wires l = l.rows.items ≡ first_rows l.fn.p l.fn.sites l.u
