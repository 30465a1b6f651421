-- What is told of files, by their numbers.
use Rattle.std.proofs.Common.{◌≡◌, ◌≢◌, ℕ, ◌-◌, min, take, drop, Bool, true, false, List, [], length, sym, ap, ◌∙◌, refl, subst, arith, Option, Some, None, option_map, string_bytes, String, Vec, vec_items}
use Rattle.std.specs.Prelude.{IsSome, MatchOption, is_some, option_and_then, slice_get, unwrap_or}
use Rattle.std.specs.Str.{bytes_eq}
use Rattle.std.specs.String.{string_eq}
use Rattle.std.specs.declared.alloc.Global.{Global}
use Rattle.std.proofs.lemmas.Grind.{common_steps}
use Rattle.std.proofs.lemmas.Option.{slice_get-map}
use Rattle.std.proofs.lemmas.Slice.Eq.{bytes_eq-Decides}
use Rattle.indexmap.specs.IndexMap.{IndexMap, get, get_by_text, index_of_by}
use Rattle.vg_store.specs.Contents.{named, told_of}
use Rattle.vg_store.specs.States.{file_named}
use Rattle.vg_store.proofs.NumberLemmas.{is_name, name_is, rest_from}

none_there : (file : Option (Option (Vec ℕ Global))) → false ≡ is_some file → None ≡ option_and_then (option_map vec_items) file
none_there None same = refl
none_there (Some file) same = absurd (cc)

-- the file of the number of a name is the one of this name
pub told_there : {S : Type 0} (files : IndexMap (String Global) (Option (Vec ℕ Global)) S) (name : List ℕ) (number : Option ℕ) → number ≡ index_of_by (is_name name) files
    → is_some number ≡ is_some (get_by_text files name) → file_named (told_of files) (named files number) ≡ told_of files name
told_there files name None is found = none_there (get_by_text files name) found
told_there files name (Some n) is found = ap (file_named (told_of files)) (name_is files name (Some n) is refl)

-- and has a name, where it is told
pub named_there : (holds : List ℕ → Option (List ℕ)) (source file : Option (List ℕ)) → file_named holds source ≡ file → IsSome file → IsSome source
named_there holds None file is told = absurd (cc)
named_there holds (Some name) file is told = refl

-- no name, no file
pub none_told : {S : Type 0} (files : IndexMap (String Global) (Option (Vec ℕ Global)) S) (name : List ℕ) → false ≡ is_some (get_by_text files name) → told_of files name ≡ None
none_told files name found = sym (none_there (get_by_text files name) found)

-- a name of which bytes are told is numbered
pub numbered : {S : Type 0} (files : IndexMap (String Global) (Option (Vec ℕ Global)) S) (name : List ℕ) → IsSome (told_of files name) → is_some (get_by_text files name) ≡ true
numbered files name told = by (get_by_text files name) told
  where
    by : (file : Option (Option (Vec ℕ Global))) → IsSome (option_and_then (option_map vec_items) file) → is_some file ≡ true
    by None told = absurd (cc)
    by (Some file) told = refl

-- what was found is there
pub is_there : {A : Type 0} (found : Option A) (bytes_of : A → List ℕ) (held : Option (List ℕ)) → MatchOption found (held ≡ None) (λ bytes. held ≡ Some (bytes_of bytes)) → true ≡ is_some found → IsSome held
is_there None bytes_of held is some = absurd (cc)
is_there (Some bytes) bytes_of held is some = ap is_some is

-- a name that was put there with no bytes tells nothing more
pub told_alike : {S : Type 0} (old new : IndexMap (String Global) (Option (Vec ℕ Global)) S) (name : List ℕ) → false ≡ is_some (get_by_text old name) → get_by_text new name ≡ Some None
    → ((other : List ℕ) → other ≢ name → get_by_text new other ≡ get_by_text old other) → (file : List ℕ) → told_of new file ≡ told_of old file
told_alike old new name none here others file =
    by (bytes_eq file name) refl
  where
    by : (b : Bool) → bytes_eq file name ≡ b → told_of new file ≡ told_of old file
    by true equal =
        let same : name ≡ file = sym ((bytes_eq-Decides file name).0 equal) in
        subst (λ (f : List ℕ). told_of new f ≡ told_of old f) same (ap (option_and_then (option_map vec_items)) here ∙ none_there (get_by_text old name) none)
    by false differ =
        ap (option_and_then (option_map vec_items)) (others file (λ e. let never : bytes_eq file name ≡ true = (bytes_eq-Decides file name).1 e in absurd (cc)))

-- what is not taken yet of the file of a number
abbrev pub left_at : {S : Type 0} → IndexMap (String Global) (Option (Vec ℕ Global)) S → Option ℕ → ℕ → List ℕ
left_at files source place = drop place (unwrap_or (file_named (told_of files) (named files source)) [])

told_at : {S : Type 0} (files : IndexMap (String Global) (Option (Vec ℕ Global)) S) (source : Option ℕ) (n : ℕ) (key : String Global) (file : Option (Vec ℕ Global)) → source ≡ Some n
    → slice_get files.entries n ≡ Some (key, file) → get string_eq files key ≡ Some file → file_named (told_of files) (named files source) ≡ option_map vec_items file
told_at files source n key file is entry value =
    ap (λ number. file_named (told_of files) (named files number)) is
    ∙ ap (λ o. file_named (told_of files) (option_map string_bytes o)) (slice_get-map (λ e. e.0) files.entries n ∙ ap (option_map (λ e. e.0)) entry)
    ∙ ap (option_and_then (option_map vec_items)) value

drop_none : (place : ℕ) → drop {A = ℕ} place [] ≡ []
drop_none place = grind (arith, common_steps)

module _ {S : Type 0} (files : IndexMap (String Global) (Option (Vec ℕ Global)) S) (source : Option ℕ) (n place : ℕ) (key : String Global) (file : Option (Vec ℕ Global)) (is : source ≡ Some n)
    (entry : slice_get files.entries n ≡ Some (key, file)) (value : get string_eq files key ≡ Some file) where
  -- nothing is left of a file that is not told
  pub none_left : file ≡ None → [] ≡ left_at files source place
  none_left none =
      sym (ap (λ o. drop place (unwrap_or o [])) (told_at files source n key file is entry value ∙ ap (option_map vec_items) none) ∙ drop_none place)

  -- and of one that is told its bytes from the place on
  pub told_left : (bytes : Vec ℕ Global) (at : ℕ) → file ≡ Some bytes → at ≡ min place (length bytes.items) → take (length bytes.items - at) (drop at bytes.items) ≡ left_at files source place
  told_left bytes at some least =
      rest_from bytes.items place at least ∙ sym (ap (λ o. drop place (unwrap_or o [])) (told_at files source n key file is entry value ∙ ap (option_map vec_items) some))
