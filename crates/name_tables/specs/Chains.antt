-- Rows in chains, by their hashes. No chain is long.
use Rattle.std.specs.Prelude.{◌≡◌, ◌==◌, ℕ, suc, ◌-◌, ◌*◌, ◌/◌, ◌^◌, ◌<◌, ◌≤◌, Bool, true, false, List, Option, None, Some, bit_and, bit_xor, length, map, slice_index, slice_index_or, if◌then◌else◌}
use Rattle.std.specs.List.{count_by}
use Rattle.name_tables.specs.declared.chains.Chains.{Chains}
use Rattle.name_tables.specs.declared.chains.Link.{Link}

-- the most rows of a chain
abbrev pub longest : ℕ
longest = 16

-- what stands in the link of a row without a hash; no row has this number
abbrev pub outside : ℕ
outside = 2 ^ 32 - 1

-- which of so many buckets a hash is in, by the low bits of its two halves
abbrev pub bucket_of : ℕ → ℕ → ℕ
bucket_of buckets hash = bit_and (bit_xor hash (hash / 2 ^ 16)) (buckets - 1)

-- twice as many buckets divide each of these in two, as they do where these are a power of two, or none
abbrev pub AreHalves : ℕ → Type 0
AreHalves buckets = bit_and (2 * buckets - 1) (buckets - 1) ≡ buckets - 1

-- the hash of a row, if it has one, by its link
abbrev pub hash_in : Link → Option ℕ
hash_in link = if link.before == outside then None else Some link.hash

-- and the hashes of all rows
abbrev pub hashes_in : List Link → List (Option ℕ)
hashes_in links = map hash_in links

abbrev pub hash_at : List (Option ℕ) → ℕ → Option ℕ
hash_at rows row = slice_index_or rows row None

-- whether a row of this hash is in a bucket; one without a hash is in none
abbrev pub is_in : ℕ → ℕ → Option ℕ → Bool
is_in buckets bucket None = false
is_in buckets bucket (Some hash) = bucket_of buckets hash == bucket

-- how many rows are in a bucket
abbrev pub count_in : ℕ → List (Option ℕ) → ℕ → ℕ
count_in buckets rows bucket = count_by (is_in buckets bucket) rows

-- the next row, by one more than its number, is the last of the first n rows that is in this bucket: none from there on
-- is, and it is itself, if it is one
pub record LeadsTo (buckets : ℕ) (rows : List (Option ℕ)) (n bucket next : ℕ) : Type 0 where
  pub within : next ≤ n
  pub later : (row : ℕ) → next ≤ row → row < n → is_in buckets bucket (hash_at rows row) ≡ false
  pub here : (row : ℕ) → next ≡ suc row → is_in buckets bucket (hash_at rows row) ≡ true

abbrev pub link_at : List Link → ℕ → Link
link_at links at = slice_index_or links at (record { before = 0; hash = 0 })

-- each bucket leads to its last row, and each row to the one before it in its bucket
pub record AreLinks (buckets : ℕ) (lasts : List ℕ) (links : List Link) : Type 0 where
  pub last : (bucket : ℕ) → bucket < length lasts
      → LeadsTo buckets (hashes_in links) (length links) bucket (slice_index lasts bucket)
  pub before : (row bucket : ℕ) → row < length links → is_in buckets bucket (hash_at (hashes_in links) row) ≡ true
      → LeadsTo buckets (hashes_in links) row bucket (link_at links row).before

-- no bucket has more rows than a chain has at most
abbrev pub AreShort : ℕ → List (Option ℕ) → Type 0
AreShort buckets rows = (bucket : ℕ) → count_in buckets rows bucket ≤ longest

-- the hashes of the rows of chains, and how many buckets these have
abbrev pub rows_of : Chains → List (Option ℕ)
rows_of chains = hashes_in chains.links.items

abbrev pub buckets_of : Chains → ℕ
buckets_of chains = length chains.lasts.items

-- how many rows the bucket of a hash has
abbrev pub count_of : Chains → ℕ → ℕ
count_of chains hash = count_in (buckets_of chains) (rows_of chains) (bucket_of (buckets_of chains) hash)

-- the links are those of rows in short chains
pub record AreChains (chains : Chains) : Type 0 where
  pub linked : AreLinks (buckets_of chains) chains.lasts.items chains.links.items
  pub short : AreShort (buckets_of chains) (rows_of chains)
