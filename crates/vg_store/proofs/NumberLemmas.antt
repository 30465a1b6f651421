-- Names by their numbers.
use Rattle.std.proofs.Common.{◌≡◌, ℕ, zero, suc, ◌-◌, ◌<◌, min, take, drop, Bool, true, false, List, [], ◌∷◌, ◌++◌, length, sym, ap, ◌∙◌, refl, subst, arith, Option, Some, None, IfSome, string_bytes, String}
use Rattle.std.specs.Prelude.{if◌then◌else◌, map, slice_get, option_map, is_some}
use Rattle.std.specs.List.{All, position}
use Rattle.std.specs.Map.{keys_of}
use Rattle.std.specs.Str.{bytes_eq}
use Rattle.std.specs.declared.alloc.Global.{Global}
use Rattle.std.proofs.Math.ListN.{get_or}
use Rattle.std.proofs.lemmas.Grind.{common_steps}
use Rattle.std.proofs.lemmas.List.{length-map}
use Rattle.std.proofs.lemmas.List.Quantifiers.{position-Some}
use Rattle.std.proofs.lemmas.Option.{slice_get-get_or}
use Rattle.std.proofs.lemmas.Slice.Eq.{bytes_eq-Decides}
use Rattle.indexmap.specs.IndexMap.{IndexMap, index_map_len, index_of_by, insert_entry, keys}
use Rattle.vg_store.specs.Contents.{draft_named, draft_of, named}
use Rattle.vg_store.specs.States.{Draft}
use Rattle.vg_store.specs.declared.waiting.Waiting.{Waiting}

abbrev pub is_name : List ℕ → String Global → Bool
is_name name key = bytes_eq name (string_bytes key)

name_at : (name : List ℕ) (names : List (String Global)) (n : ℕ) → position (is_name name) names ≡ Some n → option_map string_bytes (slice_get names n) ≡ Some name
name_at name [] n is = let none : None ≡ Some n = is in absurd (cc)
name_at name (k ∷ ks) n is =
    let (within, test, _) = position-Some (is_name name) (k ∷ ks) n k is in
    ap (option_map string_bytes) (slice_get-get_or (k ∷ ks) n k within) ∙ ap (λ text. Some text) (sym ((bytes_eq-Decides name (string_bytes (get_or (k ∷ ks) n k))).0 test))

module _ {X S : Type 0} (files : IndexMap (String Global) X S) (name : List ℕ) where
  -- the number of a name has this name
  pub name_is : (number : Option ℕ) → number ≡ index_of_by (is_name name) files → is_some number ≡ true → named files number ≡ Some name
  name_is (Some n) is some = name_at name (keys files) n (sym is)
  name_is None is some = absurd (cc)

  pub name_if : (number : Option ℕ) → number ≡ index_of_by (is_name name) files → IfSome (named files number) (λ told. told ≡ name)
  name_if (Some n) is = subst (λ (o : Option (List ℕ)). IfSome o (λ told. told ≡ name)) (sym (name_is (Some n) is refl)) refl
  name_if None is = tt

-- two names are one where both are told the same
pub some_same : (a b : List ℕ) → Some a ≡ Some b → a ≡ b
some_same a b same = cc

-- a file that is put there leaves the others' numbers
one_stays : {X : Type 0} (e : String Global × X) (es more : List (String Global × X)) (v : X) (same : Bool) → ((n : ℕ) → n < length es → slice_get (keys_of more) n ≡ slice_get (keys_of es) n)
    → (n : ℕ) → n < length (e ∷ es) → slice_get (keys_of (if same then (e.0, v) ∷ es else e ∷ more)) n ≡ slice_get (keys_of (e ∷ es)) n
one_stays e es more v true stays n h = refl
one_stays e es more v false stays zero h = refl
one_stays e es more v false stays (suc n) h = stays n (omega (arith, h))

key_stays : {X : Type 0} (eq : String Global → String Global → Bool) (es : List (String Global × X)) (k : String Global) (v : X) (n : ℕ) → n < length es
    → slice_get (keys_of (insert_entry eq es k v)) n ≡ slice_get (keys_of es) n
key_stays eq [] k v n h = absurd (omega (arith, h))
key_stays eq (e ∷ es) k v n h = one_stays e es (insert_entry eq es k v) v (eq k e.0) (key_stays eq es k v) n h

pub name_stays : {X S : Type 0} (eq : String Global → String Global → Bool) (old new : IndexMap (String Global) X S) (k : String Global) (v : X) (number : Option ℕ) → new.entries ≡ insert_entry eq old.entries k v
    → ((n : ℕ) → number ≡ Some n → n < length old.entries) → named new number ≡ named old number
name_stays eq old new k v None is within = refl
name_stays eq old new k v (Some n) is within =
    ap (λ es. option_map string_bytes (slice_get (keys_of es) n)) is ∙ ap (option_map string_bytes) (key_stays eq old.entries k v n (within n refl))

-- what is left from a place on
pub rest_from : (bytes : List ℕ) (place at : ℕ) → at ≡ min place (length bytes) → take (length bytes - at) (drop at bytes) ≡ drop place bytes
rest_from bytes place at is = grind (arith, common_steps)

-- drafts keep their names where their numbers do
pub drafts_stay : {W D : Type 0} (f g : W → D) (waiting : List W) → ((k : ℕ) (d : W) → k < length waiting → g (get_or waiting k d) ≡ f (get_or waiting k d)) → map g waiting ≡ map f waiting
drafts_stay f g [] same = refl
drafts_stay f g (w ∷ ws) same =
    let here : g w ≡ f w = same 0 w (omega arith) in
    let rest : map g ws ≡ map f ws = drafts_stay f g ws (λ k d within. same (suc k) d (omega (arith, within))) in
    cc

-- drafts of numbers that stand keep what is told of them where the numbers keep their names
module _ {X S Y T : Type 0} (old : IndexMap (String Global) X S) (new : IndexMap (String Global) Y T)
    (kept : (number : Option ℕ) → ((n : ℕ) → number ≡ Some n → n < index_map_len old) → named new number ≡ named old number) where
  pub waiting_kept : (waiting : List Waiting) → All (λ w. w.file < index_map_len old) waiting → map (draft_of new) waiting ≡ map (draft_of old) waiting
  waiting_kept waiting stand = drafts_stay (draft_of old) (draft_of new) waiting (λ k d within. one (get_or waiting k d) (stand k d within))
    where
      one : (w : Waiting) → w.file < index_map_len old → draft_of new w ≡ draft_of old w
      one w stands = ap {B = Draft} (λ (name : Option (List ℕ)). record { name = name; bytes = Some w.bytes.items }) (kept (Some w.file) (λ n is. subst (λ (m : ℕ). m < index_map_len old) (cc) stands))

  pub numbers_kept : (waiting : List (Option ℕ)) → All (λ w. (n : ℕ) → w ≡ Some n → n < index_map_len old) waiting → map (draft_named new) waiting ≡ map (draft_named old) waiting
  numbers_kept waiting stand =
      drafts_stay (draft_named old) (draft_named new) waiting
      (λ k d within. ap {B = Draft} (λ (name : Option (List ℕ)). record { name = name; bytes = None }) (kept (get_or waiting k d) (stand k d within)))

-- the first of a list is removed
first_of : {W : Type 0} (xs rest : List W) (first : W) → 0 < length xs → first ≡ get_or xs 0 first → rest ≡ take 0 xs ++ drop 1 xs → xs ≡ first ∷ rest
first_of [] rest first some is left = absurd (omega (arith, some))
first_of (x ∷ xs) rest first some is left =
    let same : first ≡ x = is in
    let others : rest ≡ xs = left in
    cc

first_moves : {W D : Type 0} (f g : W → D) (xs rest : List W) (first : W) → 0 < length xs → first ≡ get_or xs 0 first → rest ≡ take 0 xs ++ drop 1 xs → ((w : W) → g w ≡ f w)
    → map f xs ≡ f first ∷ map g rest
first_moves f g xs rest first some is left same =
    ap (map f) (first_of xs rest first some is left) ∙ ap (λ ys. f first ∷ ys) (sym (drafts_stay f g rest (λ k d within. same (get_or rest k d))))

-- the oldest draft leaves those that wait, where all numbers keep their names
module _ {X S Y T : Type 0} (old : IndexMap (String Global) X S) (new : IndexMap (String Global) Y T) (names : (number : Option ℕ) → named new number ≡ named old number) where
  pub oldest_waiting : (xs rest : List Waiting) (first : Waiting) → 0 < length (map (draft_of old) xs) → first ≡ get_or xs 0 first → rest ≡ take 0 xs ++ drop 1 xs
      → map (draft_of old) xs ≡ draft_of old first ∷ map (draft_of new) rest
  oldest_waiting xs rest first some is left =
      first_moves (draft_of old) (draft_of new) xs rest first (simp length-map at some) is left
      (λ w. ap {B = Draft} (λ (name : Option (List ℕ)). record { name = name; bytes = Some w.bytes.items }) (names (Some w.file)))

  pub oldest_number : (xs rest : List (Option ℕ)) (first : Option ℕ) → 0 < length (map (draft_named old) xs) → first ≡ get_or xs 0 first → rest ≡ take 0 xs ++ drop 1 xs
      → map (draft_named old) xs ≡ draft_named old first ∷ map (draft_named new) rest
  oldest_number xs rest first some is left =
      first_moves (draft_named old) (draft_named new) xs rest first (simp length-map at some) is left
      (λ w. ap {B = Draft} (λ (name : Option (List ℕ)). record { name = name; bytes = None }) (names w))
