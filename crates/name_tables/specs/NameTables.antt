-- Tables of names.
use Rattle.std.specs.Prelude.{◌≢◌, ℕ, ◌<◌, ◌≤◌, [], List, length, slice_index_or}
use Rattle.name_tables.specs.Chains.{AreHalves, buckets_of}
use Rattle.name_tables.specs.Filed.{AreFiled}
use Rattle.name_tables.specs.Hashes.{hash_of}
use Rattle.name_tables.specs.OrderedRows.{row_kept}
use Rattle.name_tables.specs.declared.rows.Rows.{Rows}

-- no name stands twice
abbrev pub AreDistinct : List (List ℕ) → Type 0
AreDistinct names = (i j : ℕ) → i < j → j < length names → slice_index_or names i [] ≢ slice_index_or names j []

-- each of these names is in the chain of its hash, or kept in order
abbrev pub AreRows : List (List ℕ) → Rows → Type 0
AreRows names rows = AreFiled hash_of (row_kept rows.ordered) names rows.chains

-- the rows are those of distinct names, which have a bucket each or more; twice as many divide each bucket in two
pub record IsTable (names : List (List ℕ)) (rows : Rows) : Type 0 where
  pub distinct : AreDistinct names
  pub filed : AreRows names rows
  pub room : length names ≤ buckets_of rows.chains
  pub halves : AreHalves (buckets_of rows.chains)
