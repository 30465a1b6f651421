-- What is told of a file in memory is replaced, by its number.
use Rattle.std.proofs.Common.{◌≡◌, ◌≢◌, ◌+◌, ℕ, suc, arith, Bool, true, false, cond, List, [], ◌∷◌, Option, Some, None, option_map, string_bytes, String, refl, sym, ap, subst, ◌∙◌}
use Rattle.std.specs.Prelude.{slice_get}
use Rattle.std.specs.Str.{bytes_eq}
use Rattle.std.specs.String.{string_eq, string_eq_equiv}
use Rattle.std.specs.declared.alloc.Global.{Global}
use Rattle.std.specs.List.{position_or_len}
use Rattle.std.specs.Map.{keys_of}
use Rattle.std.proofs.lemmas.Map.Entries.{hash_map_get_place}
use Rattle.std.proofs.lemmas.Map.Text.{hash_map_updates_text}
use Rattle.std.proofs.lemmas.Option.{slice_get-map}
use Rattle.std.proofs.lemmas.Slice.Eq.{bytes_eq-Decides}
use Rattle.indexmap.specs.IndexMap.{IndexMap, IsUnique, get_by_text, insert_entry, values, with_value_at}
use Rattle.indexmap.proofs.CallerLemmas.{keys-with_value_at, updates-with_value_at}
use Rattle.vg_store.specs.Contents.{named}

-- the entry of a number, from its name and its value
entry_from : {X : Type 0} (name : List ℕ) (v : X) (entry : Option (String Global × X)) → option_map string_bytes (option_map (λ e. e.0) entry) ≡ Some name → option_map (λ e. e.1) entry ≡ Some v
    → (k : String Global) × (entry ≡ Some (k, v)) × (string_bytes k ≡ name)
entry_from name v None key value = absurd (cc)
entry_from name v (Some e) key value =
    let same : e.1 ≡ v = cc in
    let its : string_bytes e.0 ≡ name = cc in
    (e.0, ap (λ w. Some (e.0, w)) same, its)

module _ {X S : Type 0} (files : IndexMap (String Global) X S) (n : ℕ) (name : List ℕ) (old new : X) (unique : IsUnique string_eq files) (is : named files (Some n) ≡ Some name)
    (value : slice_get (values files) n ≡ Some old) where
  entry : (k : String Global) × (slice_get files.entries n ≡ Some (k, old)) × (string_bytes k ≡ name)
  entry =
      entry_from name old (slice_get files.entries n)
      (ap (option_map string_bytes) (sym (slice_get-map (λ e. e.0) files.entries n)) ∙ is) (sym (slice_get-map (λ e. e.1) files.entries n) ∙ value)

  -- the file of this number
  file_there : get_by_text files name ≡ Some old
  file_there =
      let (k, at, its) = entry in
      subst (λ (l : List ℕ). get_by_text files l ≡ Some old) its (hash_map_get_place string_eq_equiv files n k old unique at)

  updated : (file : List ℕ) → get_by_text (with_value_at files n new) file ≡ cond (bytes_eq name file) (Some new) (get_by_text files file)
  updated file =
      let (k, at, its) = entry in
      subst (λ (l : List ℕ). get_by_text (with_value_at files n new) file ≡ cond (bytes_eq l file) (Some new) (get_by_text files file)) its
      (hash_map_updates_text (string_bytes k) files (with_value_at files n new) (Some new) (updates-with_value_at files n new string_eq_equiv unique k old at) file)

  -- is replaced
  pub replaced_at : get_by_text (with_value_at files n new) name ≡ Some new
  replaced_at =
      let same : bytes_eq name name ≡ true = (bytes_eq-Decides name name).1 refl in
      updated name ∙ ap (λ b. cond b (Some new) (get_by_text files name)) same

  -- and the others stay
  pub stay_at : (file : List ℕ) → file ≢ name → get_by_text (with_value_at files n new) file ≡ get_by_text files file
  stay_at file differs =
      let apart : bytes_eq name file ≡ false = by (bytes_eq name file) refl in
      updated file ∙ ap (λ b. cond b (Some new) (get_by_text files file)) apart
    where
      by : (b : Bool) → bytes_eq name file ≡ b → bytes_eq name file ≡ false
      by true equal = absurd (differs (sym ((bytes_eq-Decides name file).0 equal)))
      by false differ = differ

-- the name of a number that has a value
name_at_value : {X S : Type 0} (files : IndexMap (String Global) X S) (n : ℕ) (v : X) → slice_get (values files) n ≡ Some v → (name : List ℕ) × (named files (Some n) ≡ Some name)
name_at_value files n v value =
    let (k, at) = key_from v (slice_get files.entries n) (sym (slice_get-map (λ e. e.1) files.entries n) ∙ value) in
    (string_bytes k, ap (option_map string_bytes) (slice_get-map (λ e. e.0) files.entries n ∙ ap (option_map (λ e. e.0)) at))
  where
    key_from : {X : Type 0} (v : X) (entry : Option (String Global × X)) → option_map (λ e. e.1) entry ≡ Some v → (k : String Global) × (entry ≡ Some (k, v))
    key_from v None value = absurd (cc)
    key_from v (Some e) value = let same : e.1 ≡ v = cc in (e.0, ap (λ w. Some (e.0, w)) same)

-- the files that do not have this number stay
pub stay_apart : {X S : Type 0} (files : IndexMap (String Global) X S) (n : ℕ) (old new : X) → IsUnique string_eq files → slice_get (values files) n ≡ Some old
    → (file : List ℕ) → named files (Some n) ≢ Some file → get_by_text (with_value_at files n new) file ≡ get_by_text files file
stay_apart files n old new unique value file differs =
    let (name, is) = name_at_value files n old value in
    stay_at files n name old new unique is value file (λ e. differs (is ∙ ap (λ l. Some l) (sym e)))

-- a write by number leaves the names
pub same_names : {X S : Type 0} (files : IndexMap (String Global) X S) (n : ℕ) (w : X) (number : Option ℕ) → named (with_value_at files n w) number ≡ named files number
same_names files n w None = refl
same_names files n w (Some m) = ap (λ names. option_map string_bytes (slice_get names m)) (keys-with_value_at files n w)

-- the name of the number that a name is put at
pub inserted_name : {X : Type 0} (es : List (String Global × X)) (k : String Global) (v : X) → option_map string_bytes (slice_get (keys_of (insert_entry string_eq es k v)) (position_or_len (string_eq k) (keys_of es))) ≡ Some (string_bytes k)
inserted_name [] k v = refl
inserted_name (e ∷ es) k v = by (string_eq k e.0) refl (inserted_name es k v)
  where
    by : (b : Bool) → string_eq k e.0 ≡ b → option_map string_bytes (slice_get (keys_of (insert_entry string_eq es k v)) (position_or_len (string_eq k) (keys_of es))) ≡ Some (string_bytes k)
        → option_map string_bytes (slice_get (keys_of (insert_entry string_eq (e ∷ es) k v)) (position_or_len (string_eq k) (keys_of (e ∷ es)))) ≡ Some (string_bytes k)
    by true equal rest = rw equal (ap (λ l. Some l) (sym ((bytes_eq-Decides (string_bytes k) (string_bytes e.0)).0 equal)))
    by false differ rest =
        let m = position_or_len (string_eq k) (keys_of es) in
        let next : 1 + m ≡ suc m = omega arith in
        rw differ (ap (λ n. option_map string_bytes (slice_get (e.0 ∷ keys_of (insert_entry string_eq es k v)) n)) next ∙ rest)
