-- Rows that are kept in order, by their texts.
use Rattle.std.specs.Prelude.{ℕ, List, Option}
use Rattle.std.specs.BTreeMap.{get_by}
use Rattle.std.specs.Cmp.Lexicographic.{slice_cmp}
use Rattle.std.specs.Ordering.{nat_cmp}
use Rattle.name_tables.specs.declared.ordered_rows.OrderedRows.{OrderedRows}

-- the row that is kept by a text, if one is
unfoldable pub row_kept : OrderedRows → List ℕ → Option ℕ
row_kept ordered text = get_by (λ key. slice_cmp nat_cmp text key.items) ordered.rows
