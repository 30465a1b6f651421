-- Keys beside their values.
use Rattle.std.proofs.Common.{◌≡◌, ℕ, zero, suc, ◌<◌, false, List, [], ◌∷◌, ◌++◌, length, map, get_or, refl, sym, ap, ◌∙◌, arith, Some, None, is_some}
use Rattle.std.specs.List.{zip, list_any, position, slice_get}
use Rattle.std.specs.Str.{bytes_eq}
use Rattle.name_tables.specs.Distinct.{with_name, number_of}
use Rattle.spef_file.specs.Rows.{mapped, is_mapped}
use Rattle.spef_file.proofs.TableLemmas.{lookup_some, lookup_none, lookup_any, position_any, named_more, some_of}

-- the keys
pub keys_of : {A : Type 0} (keys : List (List ℕ)) (values : List A) → length keys ≡ length values → map (λ (row : List ℕ × A). row.0) (zip keys values) ≡ keys
keys_of [] values e = refl
keys_of (k ∷ keys) [] e = absurd (omega arith)
keys_of (k ∷ keys) (v ∷ values) e = ap (λ ks. k ∷ ks) (keys_of keys values (omega arith))

-- how many there are
pub length_of : {A : Type 0} (keys : List (List ℕ)) (values : List A) → length keys ≡ length values → length (zip keys values) ≡ length values
length_of [] values e = e
length_of (k ∷ keys) [] e = absurd (omega arith)
length_of (k ∷ keys) (v ∷ values) e = (let h = length_of keys values (omega arith) in omega arith)

-- the value at a place
pub value_of : {A : Type 0} (keys : List (List ℕ)) (values : List A) (at : ℕ) (k : List ℕ) (v : A) → length keys ≡ length values → at < length values → (get_or (zip keys values) at (k, v)).1 ≡ get_or values at v
value_of [] values at k v e l = absurd (omega arith)
value_of (x ∷ keys) [] at k v e l = absurd (omega arith)
value_of (x ∷ keys) (y ∷ values) zero k v e l = refl
value_of (x ∷ keys) (y ∷ values) (suc at) k v e l = value_of keys values at k v (omega arith) (omega arith)

-- one more
pub zip_more : {A : Type 0} (keys : List (List ℕ)) (values : List A) (k : List ℕ) (v : A) → length keys ≡ length values → zip (keys ++ k ∷ []) (values ++ v ∷ []) ≡ zip keys values ++ (k, v) ∷ []
zip_more [] [] k v e = refl
zip_more [] (y ∷ values) k v e = absurd (omega arith)
zip_more (x ∷ keys) [] k v e = absurd (omega arith)
zip_more (x ∷ keys) (y ∷ values) k v e = ap (λ rows. (x, y) ∷ rows) (zip_more keys values k v (omega arith))

-- an index that is not found has no name
pub not_mapped : (keys names : List (List ℕ)) (digits : List ℕ) → length keys ≡ length names → number_of keys digits ≡ None → None ≡ mapped (zip keys names) digits
not_mapped keys names digits e none = lookup_none (bytes_eq digits) (zip keys names) (ap (position (bytes_eq digits)) (keys_of keys names e) ∙ none)

-- the name of an index that is found
pub mapped_at : (keys names : List (List ℕ)) (digits : List ℕ) (at : ℕ) → length keys ≡ length names → number_of keys digits ≡ Some at → Some (get_or names at []) ≡ mapped (zip keys names) digits
mapped_at keys names digits at e found =
    let l : at < length keys = (let s = some_of _ _ at found in omega (arith, s.0, s.1)) in
    ap Some (sym (value_of keys names at [] [] e (omega (arith, e, l))))
    ∙ lookup_some (bytes_eq digits) (zip keys names) at ([], []) (ap (position (bytes_eq digits)) (keys_of keys names e) ∙ found)

-- an index has a name where it is found
pub mapped_any : (keys names : List (List ℕ)) (digits : List ℕ) → length keys ≡ length names → is_some (number_of keys digits) ≡ is_mapped (zip keys names) digits
mapped_any keys names digits e =
    position_any (bytes_eq digits) keys ∙ ap (list_any (bytes_eq digits)) (sym (keys_of keys names e)) ∙ sym (lookup_any (bytes_eq digits) (zip keys names))

-- one more key, which is new
pub key_more : (keys : List (List ℕ)) (key : List ℕ) → is_some (number_of keys key) ≡ false → with_name keys key ≡ keys ++ key ∷ []
key_more keys key e = named_more keys key (sym (position_any (bytes_eq key) keys) ∙ e)

-- what is found at a place, by its key and its value
pub zip_at : {A : Type 0} (keys : List (List ℕ)) (values : List A) (at : ℕ) (k : List ℕ) (v : A) → length keys ≡ length values → at < length values → slice_get (zip keys values) at ≡ Some (get_or keys at k, get_or values at v)
zip_at [] values at k v e l = absurd (omega arith)
zip_at (x ∷ keys) [] at k v e l = absurd (omega arith)
zip_at (x ∷ keys) (y ∷ values) zero k v e l = refl
zip_at (x ∷ keys) (y ∷ values) (suc at) k v e l = zip_at keys values at k v (omega arith) (omega arith)
