-- Names that are put last where they are new.
use Rattle.std.proofs.Common.{◌≡◌, ℕ, suc, ◌+◌, ◌<◌, ◌≤◌, ◌≢◌, Bool, true, false, ◌||◌, is_some, List, [], ◌∷◌, ◌++◌, Some, length, get_or, refl, sym, ap, ◌∙◌, subst, arith, length-append}
use Rattle.std.specs.List.{list_any}
use Rattle.std.specs.Prelude.{slice_get}
use Rattle.std.specs.Str.{bytes_eq}
use Rattle.std.proofs.lemmas.Slice.Eq.{bytes_eq-Decides}
use Rattle.std.proofs.lemmas.List.{get_or_append_left}
use Rattle.std.proofs.lemmas.List.Folds.{list_any_at}
use Rattle.std.proofs.lemmas.Option.{get_or_from_slice_get, slice_get-get_or, slice_get_within}
use Rattle.std.proofs.Math.Seq.{get_or-append_seam}
use Rattle.name_tables.specs.Distinct.{number_in, number_of, with_name}
use Rattle.vg_scan.proofs.FirstLemmas.{lt_yes, lt_no}

-- a name that is one of them stands at its number
pub there : (names : List (List ℕ)) (name : List ℕ) → list_any (bytes_eq name) names ≡ true
    → (number_in names name < length names) × (get_or names (number_in names name) [] ≡ name)
there [] name t = absurd (cc)
there (n ∷ ns) name t = by_test (there ns name) (bytes_eq name n) refl
  where
    by_test : (list_any (bytes_eq name) ns ≡ true → (number_in ns name < length ns) × (get_or ns (number_in ns name) [] ≡ name))
        → (b : Bool) → bytes_eq name n ≡ b
        → (number_in (n ∷ ns) name < length (n ∷ ns)) × (get_or (n ∷ ns) (number_in (n ∷ ns) name) [] ≡ name)
    by_test others true f = rw f (omega arith, sym ((bytes_eq-Decides name n).0 f))
    by_test others false f =
        let t' : (false || list_any (bytes_eq name) ns) ≡ true = rw f at t in
        let (low, is) = others t' in
        let less : 1 + number_in ns name < suc (length ns) = omega (arith, low) in
        let e : 1 + number_in ns name ≡ suc (number_in ns name) = omega arith in
        let got : get_or (n ∷ ns) (1 + number_in ns name) [] ≡ name = ap (λ k. get_or (n ∷ ns) k []) e ∙ is in
        rw f (less, got)

-- one that is none of them has the number that comes next
pub past : (names : List (List ℕ)) (name : List ℕ) → list_any (bytes_eq name) names ≡ false → number_in names name ≡ length names
past [] name t = refl
past (n ∷ ns) name t = by_test (past ns name) (bytes_eq name n) refl
  where
    by_test : (list_any (bytes_eq name) ns ≡ false → number_in ns name ≡ length ns) → (b : Bool) → bytes_eq name n ≡ b
        → number_in (n ∷ ns) name ≡ length (n ∷ ns)
    by_test others true f = let t' : (true || list_any (bytes_eq name) ns) ≡ false = rw f at t in absurd (cc)
    by_test others false f =
        let t' : (false || list_any (bytes_eq name) ns) ≡ false = rw f at t in
        let e = others t' in rw f (omega (arith, e))

pub with_new : (names : List (List ℕ)) (name : List ℕ) → list_any (bytes_eq name) names ≡ false → with_name names name ≡ names ++ name ∷ []
with_new names name t = rw t refl

pub with_old : (names : List (List ℕ)) (name : List ℕ) → list_any (bytes_eq name) names ≡ true → with_name names name ≡ names
with_old names name t = rw t refl

-- names stay where further ones are put last
pub record Grow (names after : List (List ℕ)) : Type 0 where
  pub more : length names ≤ length after
  pub stay : (k : ℕ) → k < length names → get_or after k [] ≡ get_or names k []

pub same : (names : List (List ℕ)) → Grow names names
same names = record { more = omega arith; stay = λ k l. refl }

pub put_last : (names more : List (List ℕ)) → Grow names (names ++ more)
put_last names more = record { more = omega (arith, length-append names more); stay = λ k l. get_or_append_left names more [] k l }

-- where a name stands that is put last where it is new
pub record HasNumber (names after : List (List ℕ)) (name : List ℕ) (id : ℕ) : Type 0 where
  pub within : id < length after
  pub is : get_or after id [] ≡ name
  pub grow : Grow names after

pub numbered : (names : List (List ℕ)) (name : List ℕ) → HasNumber names (with_name names name) name (number_in names name)
numbered names name = by_test (list_any (bytes_eq name) names) refl
  where
    by_test : (b : Bool) → list_any (bytes_eq name) names ≡ b → HasNumber names (with_name names name) name (number_in names name)
    by_test true t =
        let h = there names name t in
        subst (λ after. HasNumber names after name (number_in names name)) (sym (with_old names name t))
        (record { within = h.0; is = h.1; grow = same names })
    by_test false t =
        let e = past names name t in
        let n = length-append names (name ∷ []) in
        subst (λ after. HasNumber names after name (number_in names name)) (sym (with_new names name t))
        (record {
          within = omega (arith, e, n);
          is = ap (λ k. get_or (names ++ name ∷ []) k []) e ∙ get_or-append_seam names name [] [];
          grow = put_last names (name ∷ []);
        })

-- a name has a number where it is one of them
pub is_there : (names : List (List ℕ)) (name : List ℕ) → is_some (number_of names name) ≡ list_any (bytes_eq name) names
is_there names name = by_test (list_any (bytes_eq name) names) refl
  where
    by_test : (b : Bool) → list_any (bytes_eq name) names ≡ b → is_some (number_of names name) ≡ list_any (bytes_eq name) names
    by_test true t = let h = there names name t in rw (lt_yes (number_in names name) (length names) h.0) (sym t)
    by_test false t = let e : number_in names name ≡ length names = past names name t in rw (e, lt_no (length names)) (sym t)

pub number_there : (names after : List (List ℕ)) (name : List ℕ) (id : ℕ) → id ≡ number_in names name → after ≡ with_name names name → HasNumber names after name id
number_there names after name id e f =
    subst (λ (n : ℕ). HasNumber names after name n) (sym e) (subst (λ (ns : List (List ℕ)). HasNumber names ns name (number_in names name)) (sym f) (numbered names name))

-- a name whose number is the next one is none of them
pub none_before : (names : List (List ℕ)) (name : List ℕ) → number_in names name ≡ length names → list_any (bytes_eq name) names ≡ false
none_before names name e = by_test (list_any (bytes_eq name) names) refl
  where
    by_test : (b : Bool) → list_any (bytes_eq name) names ≡ b → b ≡ false
    by_test true t = let h = there names name t in let low : number_in names name < length names = h.0 in absurd (omega (arith, low, e))
    by_test false t = refl

-- and one whose number is another one is one of them
pub one_before : (names : List (List ℕ)) (name : List ℕ) → number_in names name ≢ length names → list_any (bytes_eq name) names ≡ true
one_before names name other = by_test (list_any (bytes_eq name) names) refl
  where
    by_test : (b : Bool) → list_any (bytes_eq name) names ≡ b → b ≡ true
    by_test true t = refl
    by_test false t = absurd (other (past names name t))

-- where a name is found, none is put last
pub kept : (names : List (List ℕ)) (name : List ℕ) (id : ℕ) → slice_get names id ≡ Some name → with_name names name ≡ names
kept names name id e =
    let is : bytes_eq name (get_or names id []) ≡ true = (bytes_eq-Decides name (get_or names id [])).1 (sym (get_or_from_slice_get names id name [] e)) in
    with_old names name (list_any_at (bytes_eq name) names id [] (slice_get_within names id name e) is)

-- a name is found by its number
pub found : (names after : List (List ℕ)) (name : List ℕ) (id : ℕ) → id ≡ number_in names name → after ≡ with_name names name → slice_get after id ≡ Some name
found names after name id e f = let n = number_there names after name id e f in slice_get-get_or after id [] n.within ∙ ap Some n.is
