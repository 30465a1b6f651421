-- Rows by their keys, in chains or in order: look-ups, and one row more.
use Rattle.std.proofs.Common.{◌≡◌, ◌≢◌, ℕ, zero, suc, ◌<◌, ◌≤◌, inl, inr, Bool, true, false, cond, List, [], ◌∷◌, ◌++◌, Option, None, Some, length, arith, refl, sym, ap, ◌∙◌, subst}
use Rattle.std.specs.Prelude.{IfSome, is_some}
use Rattle.std.specs.List.{slice_get}
use Rattle.std.specs.Bool.{Decides}
use Rattle.std.proofs.lemmas.Bool.{cases_Bool, cond-true, cond-false}
use Rattle.std.proofs.lemmas.List.{map-append, length-map}
use Rattle.std.proofs.lemmas.Option.{slice_get_within}
use Rattle.name_tables.specs.Chains.{bucket_of, hash_at, is_in, rows_of, LeadsTo, AreChains}
use Rattle.name_tables.specs.Filed.{hashes_by, AreFiled}
use Rattle.name_tables.specs.declared.chains.Chains.{Chains}
use Rattle.name_tables.proofs.ChainLemmas.{lt_or_le, in_own}

module _ {K : Type 0} (hash : K → ℕ) where
  pub length-hashes_by : (kept : K → Option ℕ) (keys : List K) → length (hashes_by hash kept keys) ≡ length keys
  unfolding hashes_by
  length-hashes_by kept keys = length-map keys (λ key. cond (is_some (kept key)) None (Some (hash key)))

  no_hashes : (kept : K → Option ℕ) → hashes_by hash kept [] ≡ []
  unfolding hashes_by
  no_hashes kept = refl

  hashes-more : (kept : K → Option ℕ) (keys : List K) (key : K) → hashes_by hash kept (keys ++ key ∷ []) ≡ hashes_by hash kept keys ++ cond (is_some (kept key)) None (Some (hash key)) ∷ []
  unfolding hashes_by
  hashes-more kept keys key = map-append (λ k. cond (is_some (kept k)) None (Some (hash k))) keys (key ∷ [])

  -- the hash of a row
  hash-get : (kept : K → Option ℕ) (keys : List K) (row : ℕ) (key : K) → slice_get keys row ≡ Some key → hash_at (hashes_by hash kept keys) row ≡ cond (is_some (kept key)) None (Some (hash key))
  unfolding hashes_by
  hash-get kept [] row key e = absurd (cc)
  hash-get kept (k ∷ keys) zero key e = ap (λ k. cond (is_some (kept k)) None (Some (hash k))) (let same : k ≡ key = cc in same)
  hash-get kept (k ∷ keys) (suc row) key e = hash-get kept keys row key e

  -- the hashes stay where the same rows are kept
  hashes-stay : (kept kept' : K → Option ℕ) (keys : List K) → ((row : ℕ) (key : K) → slice_get keys row ≡ Some key → kept' key ≡ kept key) → hashes_by hash kept' keys ≡ hashes_by hash kept keys
  unfolding hashes_by
  hashes-stay kept kept' [] same = refl
  hashes-stay kept kept' (k ∷ keys) same =
      let first : kept' k ≡ kept k = same 0 k refl in
      λ i. cond (is_some (first i)) None (Some (hash k)) ∷ hashes-stay kept kept' keys (λ row key e. same (suc row) key e) i

some_of : (b : Bool) (h l : ℕ) → cond b None (Some h) ≡ Some l → l ≡ h
some_of true h l e = absurd (cc)
some_of false h l e = cc

none_kept : {K : Type 0} (r : Option ℕ) (keys : List K) (key : K) → IfSome r (λ row. slice_get keys row ≡ Some key) → ((row : ℕ) → slice_get keys row ≢ Some key) → r ≡ None
none_kept None keys key h absent = refl
none_kept (Some row) keys key h absent = absurd (absent row h)

get_old : {K : Type 0} (keys more : List K) (row : ℕ) (key : K) → slice_get keys row ≡ Some key → slice_get (keys ++ more) row ≡ Some key
get_old [] more row key e = absurd (cc)
get_old (k ∷ keys) more zero key e = e
get_old (k ∷ keys) more (suc row) key e = get_old keys more row key e

get_new : {K : Type 0} (keys : List K) (key : K) (row : ℕ) → row ≡ length keys → slice_get (keys ++ key ∷ []) row ≡ Some key
get_new [] key zero e = refl
get_new [] key (suc row) e = absurd (let x : ⊥ = omega arith in x)
get_new (k ∷ keys) key zero e = absurd (let x : ⊥ = omega arith in x)
get_new (k ∷ keys) key (suc row) e = get_new keys key row (omega arith)

still_there : {K : Type 0} (r : Option ℕ) (keys more : List K) (key : K) → IfSome r (λ row. slice_get keys row ≡ Some key) → IfSome r (λ row. slice_get (keys ++ more) row ≡ Some key)
still_there None keys more key h = tt
still_there (Some row) keys more key h = get_old keys more row key h

module _ {K : Type 0} (hash : K → ℕ) (kept : K → Option ℕ) where
  -- no rows
  pub filed_none : (keys : List K) (chains : Chains) → keys ≡ [] → AreChains chains → rows_of chains ≡ [] → ((key : K) → kept key ≡ None) → AreFiled hash kept keys chains
  filed_none keys chains none chained hashes empty = record {
    chained = chained;
    hashes = hashes ∙ sym (ap (hashes_by hash kept) none ∙ no_hashes hash kept);
    ordered = λ key. subst (λ r. IfSome r (λ row. slice_get keys row ≡ Some key)) (sym (empty key)) tt;
  }

  -- the same rows in other chains, or kept in another place
  pub filed_same : (kept' : K → Option ℕ) (keys : List K) (old new : Chains) → AreFiled hash kept keys old → AreChains new → rows_of new ≡ rows_of old
      → ((key : K) → kept' key ≡ kept key) → AreFiled hash kept' keys new
  filed_same kept' keys old new h chained hashes same = record {
    chained = chained;
    hashes = hashes ∙ h.hashes ∙ sym (hashes-stay hash kept kept' keys (λ row key e. same key));
    ordered = λ key. subst (λ r. IfSome r (λ row. slice_get keys row ≡ Some key)) (sym (same key)) (h.ordered key);
  }

  -- a row more in its chain
  pub filed_chained : (keys : List K) (key : K) (old new : Chains) (h : ℕ) → AreFiled hash kept keys old → ((row : ℕ) → slice_get keys row ≢ Some key) → h ≡ hash key
      → AreChains new → rows_of new ≡ rows_of old ++ Some h ∷ [] → AreFiled hash kept (keys ++ key ∷ []) new
  filed_chained keys key old new k h absent is chained more =
      let none : kept key ≡ None = none_kept (kept key) keys key (h.ordered key) absent in record {
        chained = chained;
        hashes = more ∙ ap (λ rows. rows ++ Some k ∷ []) h.hashes ∙ ap (λ x. hashes_by hash kept keys ++ Some x ∷ []) is
            ∙ ap (λ r. hashes_by hash kept keys ++ cond (is_some r) None (Some (hash key)) ∷ []) (sym none) ∙ sym (hashes-more hash kept keys key);
        ordered = λ other. still_there (kept other) keys (key ∷ []) other (h.ordered other);
      }

  -- a row more that is kept in order
  pub filed_ordered : (kept' : K → Option ℕ) (same : K → Bool) (keys : List K) (key : K) (row : ℕ) (old new : Chains) → AreFiled hash kept keys old → ((row : ℕ) → slice_get keys row ≢ Some key)
      → ((other : K) → kept' other ≡ cond (same other) (Some row) (kept other)) → ((other : K) → Decides (same other) (key ≡ other)) → row ≡ length keys
      → AreChains new → rows_of new ≡ rows_of old ++ None ∷ [] → AreFiled hash kept' (keys ++ key ∷ []) new
  filed_ordered kept' same keys key row old new h absent put decides last chained more =
      let here : kept' key ≡ Some row = put key ∙ cond-true (same key) (Some row) (kept key) ((decides key).1 refl) in
      let elsewhere : (other : K) → key ≢ other → kept' other ≡ kept other =
      λ other differ. put other ∙ elim (cases_Bool (same other)) as (λ _. cond (same other) (Some row) (kept other) ≡ kept other) [
        | inl s ↦ absurd (differ ((decides other).0 s))
        | inr s ↦ cond-false (same other) (Some row) (kept other) s
      ] in
      let stay : hashes_by hash kept' keys ≡ hashes_by hash kept keys =
      hashes-stay hash kept kept' keys (λ at other e. elsewhere other (λ s. absent at (e ∙ ap Some (sym s)))) in
      record {
        chained = chained;
        hashes = more ∙ ap (λ rows. rows ++ None ∷ []) (h.hashes ∙ sym stay)
            ∙ ap (λ r. hashes_by hash kept' keys ++ cond (is_some r) None (Some (hash key)) ∷ []) (sym here) ∙ sym (hashes-more hash kept' keys key);
        ordered = λ other. elim (cases_Bool (same other)) as (λ _. IfSome (kept' other) (λ at. slice_get (keys ++ key ∷ []) at ≡ Some other)) [
          | inl s ↦
              let is : key ≡ other = (decides other).0 s in
              subst (λ k. IfSome (kept' k) (λ at. slice_get (keys ++ key ∷ []) at ≡ Some k)) is
              (subst (λ r. IfSome r (λ at. slice_get (keys ++ key ∷ []) at ≡ Some key)) (sym here) (get_new keys key row last))
          | inr s ↦
              subst (λ r. IfSome r (λ at. slice_get (keys ++ key ∷ []) at ≡ Some other)) (sym (put other ∙ cond-false (same other) (Some row) (kept other) s))
              (still_there (kept other) keys (key ∷ []) other (h.ordered other))
        ];
      }

  -- how many rows there are
  pub filed_count : (keys : List K) (chains : Chains) → AreFiled hash kept keys chains → length (rows_of chains) ≡ length keys
  filed_count keys chains h = ap length h.hashes ∙ length-hashes_by hash kept keys

  -- the hash of a row that has one
  pub held : (keys : List K) (chains : Chains) (row h : ℕ) (key : K) → AreFiled hash kept keys chains → hash_at (rows_of chains) row ≡ Some h → slice_get keys row ≡ Some key → h ≡ hash key
  held keys chains row h key filed e there =
      some_of (is_some (kept key)) (hash key) h (sym (hash-get hash kept keys row key there) ∙ ap (λ rows. hash_at rows row) (sym filed.hashes) ∙ e)

  -- where no row of a key's bucket is, there is no row of the key, but for one that is kept in order
  nowhere : (buckets : ℕ) (keys : List K) (chains : Chains) (key : K) (row : ℕ) → AreFiled hash kept keys chains → is_in buckets (bucket_of buckets (hash key)) (hash_at (rows_of chains) row) ≡ false
      → is_some (kept key) ≡ false → slice_get keys row ≢ Some key
  nowhere buckets keys chains key row filed out unkept there =
      let own : hash_at (rows_of chains) row ≡ Some (hash key) =
      ap (λ rows. hash_at rows row) filed.hashes ∙ hash-get hash kept keys row key there ∙ ap (λ b. cond b None (Some (hash key))) unkept in
      let clash : true ≡ false = sym (in_own buckets (hash key)) ∙ ap (is_in buckets (bucket_of buckets (hash key))) (sym own) ∙ out in
      cc

  -- a look-up along a chain: where it begins, and one turn
  pub walk_begins : (buckets : ℕ) (keys : List K) (chains : Chains) (key : K) (next : ℕ) → AreFiled hash kept keys chains
      → LeadsTo buckets (rows_of chains) (length (rows_of chains)) (bucket_of buckets (hash key)) next
      → (row : ℕ) → next ≤ row → is_some (kept key) ≡ false → slice_get keys row ≢ Some key
  walk_begins buckets keys chains key next filed h row low unkept there =
      let within : row < length keys = slice_get_within keys row key there in
      nowhere buckets keys chains key row filed (h.later row low (omega (arith, within, filed_count keys chains filed))) unkept there

  pub walk_turns : (buckets : ℕ) (keys : List K) (chains : Chains) (key : K) (next row before : ℕ) → AreFiled hash kept keys chains → next ≡ suc row
      → LeadsTo buckets (rows_of chains) row (bucket_of buckets (hash key)) before
      → slice_get keys row ≢ Some key → ((at : ℕ) → next ≤ at → is_some (kept key) ≡ false → slice_get keys at ≢ Some key)
      → (at : ℕ) → before ≤ at → is_some (kept key) ≡ false → slice_get keys at ≢ Some key
  walk_turns buckets keys chains key next row before filed is h other later at low unkept there =
      elim (lt_or_le at row) as (λ _. ⊥) [
        | inl less ↦ nowhere buckets keys chains key at filed (h.later at low less) unkept there
        | inr ge ↦
            elim (lt_or_le row at) as (λ _. ⊥) [
              | inl more ↦ later at (omega arith) unkept there
              | inr le ↦ let same : at ≡ row = omega arith in other (ap (slice_get keys) (sym same) ∙ there)
            ]
      ]
