-- Where names come first in a list that grows.
use Rattle.std.proofs.Common.{◌≡◌, ℕ, suc, ◌+◌, ◌<◌, ◌≤◌, nat_lt, Bool, true, false, not, ◌||◌, cond, List, [], ◌∷◌, ◌++◌, length, get_or, position, slice_get, Option, Some, None, refl, sym, ap, ◌∙◌, arith, length-append}
use Rattle.std.specs.List.{list_any, position_or_len}
use Rattle.std.specs.Option.{option_and_then}
use Rattle.std.specs.Str.{bytes_eq}
use Rattle.std.proofs.lemmas.Bool.Decides.{nat_tests}
use Rattle.std.proofs.lemmas.List.Folds.{position_or_len_push}
use Rattle.std.proofs.lemmas.List.Sums.{position_or_len_is, prefix_len-le-length}
use Rattle.std.proofs.Math.ListN.{get_or-append}
use Rattle.std.proofs.Math.Seq.{get_or-append_seam}
use Rattle.std.proofs.lemmas.Option.{slice_get-get_or}
use Rattle.std.proofs.lemmas.Slice.Eq.{bytes_eq-Decides}
use Rattle.name_tables.specs.Distinct.{number_of, with_name}
use Rattle.lib_cells.specs.PinTables.{AreFirst}
use Rattle.lib_cells.specs.declared.first_places.FirstPlaces.{FirstPlaces}

module _ {X : Type 0} (p : X → Bool) (xs : List X) where
  is_place : (k : ℕ) → position_or_len p xs ≡ k → k < length xs → position p xs ≡ Some k
  is_place k e l = grind (arith, nat_tests)

  is_no_place : length xs ≤ position_or_len p xs → position p xs ≡ None
  is_no_place l = grind (arith, nat_tests)

  place_is : (k : ℕ) → position p xs ≡ Some k → (position_or_len p xs ≡ k) × (k < length xs)
  place_is k h = by_test (nat_lt (position_or_len p xs) (length xs)) refl
    where
      by_test : (t : Bool) → nat_lt (position_or_len p xs) (length xs) ≡ t → (position_or_len p xs ≡ k) × (k < length xs)
      by_test true t = let g : position_or_len p xs ≡ k = (let g' = rw t at h in cc) in (g, grind (arith, nat_tests))
      by_test false t = let g = rw t at h in absurd (cc)

  no_place_is : position p xs ≡ None → length xs ≤ position_or_len p xs
  no_place_is h = by_test (nat_lt (position_or_len p xs) (length xs)) refl
    where
      by_test : (t : Bool) → nat_lt (position_or_len p xs) (length xs) ≡ t → length xs ≤ position_or_len p xs
      by_test true t = let g = rw t at h in absurd (cc)
      by_test false t = grind (arith, nat_tests)

module _ {X : Type 0} (p : X → Bool) (xs : List X) (x : X) where
  kept : (k : ℕ) → position p xs ≡ Some k → position p (xs ++ x ∷ []) ≡ Some k
  kept k h =
      let (e, l) = place_is p xs k h in
      let more = position_or_len_push p xs x in
      let size = length-append xs (x ∷ []) in
      is_place p (xs ++ x ∷ []) k (grind (arith, nat_tests)) (omega arith)

  put_last : position p xs ≡ None → p x ≡ true → position p (xs ++ x ∷ []) ≡ Some (length xs)
  put_last h t =
      let l = no_place_is p xs h in
      let most = prefix_len-le-length (λ x. not (p x)) xs in
      let more = rw t at (position_or_len_push p xs x) in
      let size = length-append xs (x ∷ []) in
      is_place p (xs ++ x ∷ []) (length xs) (grind (arith, nat_tests)) (omega arith)

  still_none : position p xs ≡ None → p x ≡ false → position p (xs ++ x ∷ []) ≡ None
  still_none h t =
      let l = no_place_is p xs h in
      let most = prefix_len-le-length (λ x. not (p x)) xs in
      let more = rw t at (position_or_len_push p xs x) in
      let size = length-append xs (x ∷ []) in
      is_no_place p (xs ++ x ∷ []) (grind (arith, nat_tests))

-- ---- a walk

-- no name before this place is it, and the one here is
pub stops_here : (names : List (List ℕ)) (name : List ℕ) (at : ℕ) → at < length names → ((k : ℕ) → k < at → bytes_eq name (get_or names k []) ≡ false)
    → bytes_eq name (get_or names at []) ≡ true → position (bytes_eq name) names ≡ Some at
stops_here names name at low before here =
    is_place (bytes_eq name) names at (position_or_len_is (bytes_eq name) names at [] (omega arith) before (λ _. here)) low

pub stops_nowhere : (names : List (List ℕ)) (name : List ℕ) (at : ℕ) → length names ≤ at → ((k : ℕ) → k < at → bytes_eq name (get_or names k []) ≡ false)
    → position (bytes_eq name) names ≡ None
stops_nowhere names name at past before =
    let last = position_or_len_is (bytes_eq name) names (length names) [] (omega arith) (λ k low. before k (omega arith)) (λ low. absurd (omega arith)) in
    is_no_place (bytes_eq name) names (omega arith)

-- ---- a table

any_there : {X : Type 0} (p : X → Bool) (xs : List X) → list_any p xs ≡ nat_lt (position_or_len p xs) (length xs)
any_there p [] = refl
any_there p (x ∷ xs) = by_test (p x) (any_there p xs)
  where
    by_test : (t : Bool) → list_any p xs ≡ nat_lt (position_or_len p xs) (length xs)
        → (t || list_any p xs) ≡ nat_lt (cond (not t) (1 + position_or_len p xs) 0) (suc (length xs))
    by_test true e = grind (arith, nat_tests)
    by_test false e = grind (arith, nat_tests)

not_any : {X : Type 0} (p : X → Bool) (xs : List X) → position p xs ≡ None → list_any p xs ≡ false
not_any p xs h = let l = no_place_is p xs h in any_there p xs ∙ grind (arith, nat_tests)

-- a name that is not there is not one that is
is_another : (names : List (List ℕ)) (name known : List ℕ) → number_of names name ≡ None → list_any (bytes_eq known) names ≡ true → bytes_eq name known ≡ false
is_another names name known none any = by_test (bytes_eq name known) refl
  where
    by_test : (t : Bool) → bytes_eq name known ≡ t → bytes_eq name known ≡ false
    by_test true e =
        let same : name ≡ known = (bytes_eq-Decides name known).0 e in
        let clash : true ≡ false = sym any ∙ ap (λ n. list_any (bytes_eq n) names) (sym same) ∙ not_any (bytes_eq name) names none in
        absurd (cc)
    by_test false e = e

module _ (names : List (List ℕ)) (first : FirstPlaces) (new : List ℕ) (are : AreFirst names first) where
  abbrev places : List ℕ
  places = first.places.items

  -- where a name comes first, by its number
  place_by : (name : List ℕ) (k : ℕ) → number_of first.names name ≡ Some k → position (bytes_eq name) names ≡ Some (get_or places k 0)
  place_by name k e =
      let low = (place_is (bytes_eq name) first.names k e).1 in
      are.find name ∙ ap (option_and_then (slice_get places)) e ∙ slice_get-get_or places k 0 (omega (arith, are.one_each, low))

  none_by : (name : List ℕ) → number_of first.names name ≡ None → position (bytes_eq name) names ≡ None
  none_by name e = are.find name ∙ ap (option_and_then (slice_get places)) e

  -- a name comes again
  pub comes_again : list_any (bytes_eq new) first.names ≡ true → AreFirst (names ++ new ∷ []) first
  comes_again any = record { one_each = are.one_each; find = λ name. by_number name (number_of first.names name) refl }
    where
      by_number : (name : List ℕ) (number : Option ℕ) → number_of first.names name ≡ number
          → position (bytes_eq name) (names ++ new ∷ []) ≡ option_and_then (slice_get places) (number_of first.names name)
      by_number name (Some k) e =
          kept (bytes_eq name) names new (get_or places k 0) (place_by name k e) ∙ sym (place_by name k e) ∙ are.find name
      by_number name None e =
          still_none (bytes_eq name) names new (none_by name e) (is_another first.names name new e any)
          ∙ sym (ap (option_and_then (slice_get places)) e)

  -- a new name comes
  pub comes_new : (more : FirstPlaces) (place : ℕ) → place ≡ length names → more.names ≡ first.names ++ new ∷ [] → more.places.items ≡ places ++ place ∷ []
      → AreFirst (names ++ new ∷ []) more
  comes_new more place at e f = record {
    one_each = omega (arith, ap length e, ap length f, are.one_each, length-append first.names (new ∷ []), length-append places (place ∷ []));
    find =
        λ name. by_number name (number_of first.names name) refl
        ∙ (λ i. option_and_then (slice_get (sym f i)) (number_of (sym e i) name));
  }
    where
      by_test : (name : List ℕ) (t : Bool) → number_of first.names name ≡ None → bytes_eq name new ≡ t
          → position (bytes_eq name) (names ++ new ∷ []) ≡ option_and_then (slice_get (places ++ place ∷ [])) (number_of (first.names ++ new ∷ []) name)
      by_test name true none t =
          put_last (bytes_eq name) names new (none_by name none) t
          ∙ ap Some (sym at)
          ∙ ap Some (sym (get_or-append_seam places place [] 0))
          ∙ sym (slice_get-get_or (places ++ place ∷ []) (length places) 0 (omega (arith, length-append places (place ∷ []))))
          ∙ ap (slice_get (places ++ place ∷ [])) are.one_each
          ∙ sym (ap (option_and_then (slice_get (places ++ place ∷ []))) (put_last (bytes_eq name) first.names new none t))
      by_test name false none t =
          still_none (bytes_eq name) names new (none_by name none) t
          ∙ sym (ap (option_and_then (slice_get (places ++ place ∷ []))) (still_none (bytes_eq name) first.names new none t))

      by_number : (name : List ℕ) (number : Option ℕ) → number_of first.names name ≡ number
          → position (bytes_eq name) (names ++ new ∷ []) ≡ option_and_then (slice_get (places ++ place ∷ [])) (number_of (first.names ++ new ∷ []) name)
      by_number name (Some k) e =
          let low = (place_is (bytes_eq name) first.names k e).1 in
          let within : k < length places = omega (arith, are.one_each, low) in
          kept (bytes_eq name) names new (get_or places k 0) (place_by name k e)
          ∙ ap Some (sym (get_or-append places (place ∷ []) 0 k within))
          ∙ sym (slice_get-get_or (places ++ place ∷ []) k 0 (omega (arith, within, length-append places (place ∷ []))))
          ∙ sym (ap (option_and_then (slice_get (places ++ place ∷ []))) (kept (bytes_eq name) first.names new k e))
      by_number name None e = by_test name (bytes_eq name new) e refl

-- a name that makes the names more is new, and another one is not
module _ (names : List (List ℕ)) (name : List ℕ) where
  pub one_more : length names < length (with_name names name) → with_name names name ≡ names ++ name ∷ []
  one_more l = by_test (list_any (bytes_eq name) names) refl
    where
      by_test : (t : Bool) → list_any (bytes_eq name) names ≡ t → with_name names name ≡ names ++ name ∷ []
      by_test true e = let g : length names < length names = (rw e at l) in absurd (omega arith)
      by_test false e = rw e refl

  pub no_more : length (with_name names name) ≤ length names → (list_any (bytes_eq name) names ≡ true) × (with_name names name ≡ names)
  no_more l = by_test (list_any (bytes_eq name) names) refl
    where
      by_test : (t : Bool) → list_any (bytes_eq name) names ≡ t → (list_any (bytes_eq name) names ≡ true) × (with_name names name ≡ names)
      by_test true e = (e, rw e refl)
      by_test false e =
          let g : length (names ++ name ∷ []) ≤ length names = (rw e at l) in
          absurd (omega (arith, g, length-append names (name ∷ [])))
