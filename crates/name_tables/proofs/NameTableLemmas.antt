-- Tables of names: their rows, and the number of a name.
use Rattle.std.proofs.Common.{◌≡◌, ◌≢◌, ℕ, zero, suc, ◌+◌, ◌*◌, ◌<◌, ◌≤◌, inl, inr, Bool, true, false, List, [], ◌∷◌, ◌++◌, length, get_or, arith, refl, sym, ap, ◌∙◌, subst, length-append, ◌||◌, Some, None, take, ◌-◌}
use Rattle.std.specs.List.{list_any, position_or_len, slice_get}
use Rattle.std.specs.Str.{bytes_eq}
use Rattle.std.proofs.lemmas.Slice.Eq.{bytes_eq-Decides}
use Rattle.std.proofs.lemmas.List.Sums.{position_or_len_is, fails_before_first}
use Rattle.std.proofs.lemmas.List.Quantifiers.{position-Some}
use Rattle.std.proofs.lemmas.Option.{get_or_from_slice_get, slice_get_within}
use Rattle.std.proofs.Math.ListN.{get_or-append}
use Rattle.std.proofs.Math.Seq.{get_or-append_seam, take-length}
use Rattle.std.proofs.lemmas.List.{take-append-le}
use Rattle.name_tables.specs.Chains.{buckets_of, AreHalves}
use Rattle.name_tables.specs.Distinct.{number_of, number_in, with_name}
use Rattle.name_tables.specs.NameTables.{AreDistinct, AreRows, IsTable}
use Rattle.name_tables.specs.declared.rows.Rows.{Rows}
use Rattle.name_tables.proofs.ChainLemmas.{lt_or_le, halves_double}
use Rattle.vg_scan.proofs.FirstLemmas.{lt_yes, lt_no, not_true}

eq_yes : (a b : List ℕ) → b ≡ a → bytes_eq a b ≡ true
eq_yes a b e = (bytes_eq-Decides a b).1 (sym e)

pub eq_no : (a b : List ℕ) → b ≢ a → bytes_eq a b ≡ false
eq_no a b d = not_true (bytes_eq a b) (λ e. d (sym ((bytes_eq-Decides a b).0 e)))

-- where a name stands that is one of distinct ones
pub first_place : (names : List (List ℕ)) (name : List ℕ) (row : ℕ) → AreDistinct names → row < length names → get_or names row [] ≡ name → position_or_len (bytes_eq name) names ≡ row
first_place names name row distinct l e =
    position_or_len_is (bytes_eq name) names row [] (omega arith)
    (λ k less. eq_no name (get_or names k []) (λ same. distinct k row less l (same ∙ sym e)))
    (λ _. eq_yes name (get_or names row []) e)

pub no_place : (names : List (List ℕ)) (name : List ℕ) → ((row : ℕ) → row < length names → get_or names row [] ≢ name) → position_or_len (bytes_eq name) names ≡ length names
no_place names name absent =
    position_or_len_is (bytes_eq name) names (length names) [] (omega arith) (λ k less. eq_no name (get_or names k []) (absent k less)) (λ l. absurd (let x : ⊥ = omega arith in x))

pub is_number : (names : List (List ℕ)) (name : List ℕ) (row : ℕ) → AreDistinct names → row < length names → get_or names row [] ≡ name → Some row ≡ number_of names name
is_number names name row distinct l e = rw (first_place names name row distinct l e) (rw (lt_yes row (length names) l) refl)

pub no_number : (names : List (List ℕ)) (name : List ℕ) → ((row : ℕ) → row < length names → get_or names row [] ≢ name) → None ≡ number_of names name
no_number names name absent = rw (no_place names name absent) (rw (lt_no (length names)) refl)

any_there : (p : List ℕ → Bool) (names : List (List ℕ)) (row : ℕ) → row < length names → p (get_or names row []) ≡ true → list_any p names ≡ true
any_there p [] row l e = absurd (let x : ⊥ = omega (arith, l) in x)
any_there p (name ∷ names) zero l e = rw e refl
any_there p (name ∷ names) (suc row) l e = elim (p name) as (λ b. (b || list_any p names) ≡ true) [ true ↦ refl | false ↦ any_there p names row (omega (arith, l)) e ]

none_there : (p : List ℕ → Bool) (names : List (List ℕ)) → ((row : ℕ) → row < length names → p (get_or names row []) ≡ false) → list_any p names ≡ false
none_there p [] h = refl
none_there p (name ∷ names) h = rw (let e : p name ≡ false = h 0 (omega arith) in e) (none_there p names (λ row l. h (suc row) (omega (arith, l))))

pub with_known : (names : List (List ℕ)) (name : List ℕ) (row : ℕ) → row < length names → get_or names row [] ≡ name → names ≡ with_name names name
with_known names name row l e = rw (any_there (bytes_eq name) names row l (eq_yes name (get_or names row []) e)) refl

pub with_new : (names : List (List ℕ)) (name : List ℕ) → ((row : ℕ) → row < length names → get_or names row [] ≢ name) → with_name names name ≡ names ++ name ∷ []
with_new names name absent = rw (none_there (bytes_eq name) names (λ row l. eq_no name (get_or names row []) (absent row l))) refl

-- one name more, which is new
distinct_more : (names : List (List ℕ)) (name : List ℕ) → AreDistinct names → ((row : ℕ) → row < length names → get_or names row [] ≢ name) → AreDistinct (names ++ name ∷ [])
distinct_more names name distinct absent i j less within same =
    let count : length (names ++ name ∷ []) ≡ length names + 1 = omega (arith, length-append names (name ∷ [])) in
    let left : get_or (names ++ name ∷ []) i [] ≡ get_or names i [] = get_or-append names (name ∷ []) [] i (omega arith) in
    elim (lt_or_le j (length names)) as (λ _. ⊥) [
      | inl old ↦ distinct i j less old (sym left ∙ same ∙ get_or-append names (name ∷ []) [] j old)
      | inr new ↦
          let at : j ≡ length names = omega arith in
          absent i (omega arith) (sym left ∙ same ∙ ap (λ k. get_or (names ++ name ∷ []) k []) at ∙ get_or-append_seam names name [] [])
    ]

pub table_more : (names : List (List ℕ)) (name : List ℕ) (old new : Rows) → IsTable names old → AreRows (names ++ name ∷ []) new → buckets_of new.chains ≡ buckets_of old.chains
    → length names < buckets_of old.chains → ((row : ℕ) → row < length names → get_or names row [] ≢ name) → IsTable (names ++ name ∷ []) new
table_more names name old new table rows same less absent = record {
  distinct = distinct_more names name table.distinct absent;
  filed = rows;
  room = omega (arith, same, less, length-append names (name ∷ []));
  halves = subst (λ n. AreHalves n) (sym same) table.halves;
}

-- the same names in other rows
pub table_same : (names : List (List ℕ)) (old new : Rows) → IsTable names old → AreRows names new → buckets_of new.chains ≡ buckets_of old.chains → IsTable names new
table_same names old new table rows same = record {
  distinct = table.distinct;
  filed = rows;
  room = omega (arith, same, table.room);
  halves = subst (λ n. AreHalves n) (sym same) table.halves;
}

-- a name without a number is none of them
pub absent_of : (names : List (List ℕ)) (name : List ℕ) → None ≡ number_of names name → (row : ℕ) → row < length names → get_or names row [] ≢ name
absent_of names name none row l same =
    elim (lt_or_le (position_or_len (bytes_eq name) names) (length names)) as (λ _. ⊥) [
      | inl less ↦ let clash : None ≡ Some (position_or_len (bytes_eq name) names) = none ∙ rw (lt_yes (position_or_len (bytes_eq name) names) (length names) less) refl in cc
      | inr ge ↦
          let no : bytes_eq name (get_or names row []) ≡ false = fails_before_first (bytes_eq name) names row [] (omega arith) in
          let clash : true ≡ false = sym (eq_yes name (get_or names row []) same) ∙ no in
          cc
    ]

-- and one with a number is that one
pub known_of : (names : List (List ℕ)) (name : List ℕ) (row : ℕ) → Some row ≡ number_of names name → (row < length names) × (get_or names row [] ≡ name)
known_of names name row some =
    let there = position-Some (bytes_eq name) names row [] (sym some) in
    (there.0, sym ((bytes_eq-Decides name (get_or names row [])).0 there.1))

no_less : (p : List ℕ → Bool) (xs : List (List ℕ)) → length xs ≤ position_or_len p xs → (k : ℕ) → k < length xs → p (get_or xs k []) ≡ false
no_less p xs ge k l = fails_before_first p xs k [] (omega arith)

pub number_known : (names : List (List ℕ)) (name : List ℕ) (row : ℕ) → Some row ≡ number_of names name → row ≡ number_in names name
number_known names name row some =
    elim (lt_or_le (position_or_len (bytes_eq name) names) (length names)) as (λ _. row ≡ number_in names name) [
      | inl less ↦ let e : Some row ≡ Some (position_or_len (bytes_eq name) names) = some ∙ rw (lt_yes (position_or_len (bytes_eq name) names) (length names) less) refl in cc
      | inr ge ↦ let there = known_of names name row some in let last = no_less (bytes_eq name) names ge in absurd (let clash : true ≡ false = sym (eq_yes name (get_or names row []) there.1) ∙ last row there.0 in cc)
    ]

-- names without the last one
pub without_last : (names : List (List ℕ)) (name : List ℕ) → take (length (names ++ name ∷ []) - 1) (names ++ name ∷ []) ≡ names
without_last names name =
    let count : length (names ++ name ∷ []) - 1 ≡ length names = omega (arith, length-append names (name ∷ [])) in
    ap (λ n. take n (names ++ name ∷ [])) count ∙ take-append-le (length names) names (name ∷ []) (omega arith) ∙ take-length names

-- no names
pub no_table : (texts : List (List ℕ)) (rows : Rows) (buckets : ℕ) → texts ≡ [] → AreRows [] rows → buckets_of rows.chains ≡ buckets → AreHalves buckets → IsTable texts rows
no_table texts rows buckets e h count halves = record {
  distinct = λ i j less within. absurd (let n : length texts ≡ 0 = subst (λ (ts : List (List ℕ)). length ts ≡ 0) (sym e) refl in omega arith);
  filed = subst (λ (names : List (List ℕ)). AreRows names rows) (sym e) h;
  room = (let n : length texts ≡ 0 = subst (λ (ts : List (List ℕ)). length ts ≡ 0) (sym e) refl in omega arith);
  halves = subst (λ n. AreHalves n) (sym count) halves;
}

-- the same names in twice as many buckets, or in as many
pub table_double : (names : List (List ℕ)) (old new : Rows) → IsTable names old → AreRows names new → buckets_of new.chains ≡ 2 * buckets_of old.chains → IsTable names new
table_double names old new table rows twice = record {
  distinct = table.distinct;
  filed = rows;
  room = omega (arith, twice, table.room);
  halves = subst (λ n. AreHalves n) (sym twice) (halves_double (buckets_of old.chains) table.halves);
}

-- where a name is among names, by its row and as it is read there
pub there_at : (names : List (List ℕ)) (row : ℕ) (name : List ℕ) → slice_get names row ≡ Some name → (row < length names) × (get_or names row [] ≡ name)
there_at names row name there = (slice_get_within names row name there, get_or_from_slice_get names row name [] there)

pub not_at : (names : List (List ℕ)) (name : List ℕ) → ((row : ℕ) → row < length names → get_or names row [] ≢ name) → (row : ℕ) → slice_get names row ≢ Some name
not_at names name absent row there = let at = there_at names row name there in absent row at.0 at.1
