use Rattle.std.proofs.Common.{◌≡◌, ◌≢◌, ℕ, suc, ◌≤◌, true, false, length, Some}
use Rattle.std.specs.Prelude.{is_some}
use Rattle.std.specs.List.{slice_get}
use Rattle.name_tables.specs.Chains.{bucket_of, buckets_of, hash_at, is_in, rows_of}
use Rattle.name_tables.specs.OrderedRows.{row_kept}
use Rattle.name_tables.proofs.rows.Rows.find.Given as goal

abbrev pub invariant-row : goal.invariant-row
invariant-row l = record {
  within : l.next ≤ length l.texts;
  absent : (row : ℕ) → l.next ≤ row → is_some (row_kept l.self.ordered l.name) ≡ false → slice_get l.texts row ≢ Some l.name;
  here : (row : ℕ) → l.next ≡ suc row → is_in (buckets_of l.self.chains) (bucket_of (buckets_of l.self.chains) l.hash) (hash_at (rows_of l.self.chains) row) ≡ true;
}

abbrev pub decreases-row : goal.decreases-row
decreases-row l = l.next
