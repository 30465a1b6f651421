use Rattle.std.proofs.Common.{◌≡◌, ℕ, suc, ◌+◌, ◌≤◌, true, length, take}
use Rattle.name_tables.specs.Chains.{bucket_of, buckets_of, count_in, hash_at, is_in, longest, rows_of}
use Rattle.name_tables.proofs.chains.Chains.is_full.Given as goal

abbrev pub invariant-row : goal.invariant-row
invariant-row l =
    let buckets = buckets_of l.self in
    let bucket = bucket_of buckets l.hash in
    record {
      within : l.next ≤ length (rows_of l.self);
      here : (row : ℕ) → l.next ≡ suc row → is_in buckets bucket (hash_at (rows_of l.self) row) ≡ true;
      counted : l.count + count_in buckets (take l.next (rows_of l.self)) bucket ≡ count_in buckets (rows_of l.self) bucket;
      few : l.count ≤ longest;
    }

abbrev pub decreases-row : goal.decreases-row
decreases-row l = l.next
