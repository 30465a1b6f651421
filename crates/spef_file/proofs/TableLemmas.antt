-- Look-ups in the tables.
use Rattle.std.proofs.Common.{◌≡◌, ℕ, ◌+◌, Bool, ◌||◌, not, cond, List, [], ◌∷◌, map, length, refl, sym, ap, ◌∙◌, Option, Some, None, nat_lt, ◌<◌, true, false, is_some, suc, arith, get_or, ◌++◌, inl, inr}
use Rattle.std.proofs.lemmas.Bool.Decides.{nat_tests}
use Rattle.std.specs.Map.{lookup}
use Rattle.std.specs.Str.{bytes_eq}
use Rattle.name_tables.specs.Distinct.{with_name}
use Rattle.spef_file.specs.declared.fault.SpefKind.TheVariants.{MapTwice, Stray}
use Rattle.spef_file.specs.Rows.{mapped}
use Rattle.spef_file.specs.Machine.{given_fault}
use Rattle.std.specs.List.{list_any, position, prefix_len}
use Rattle.std.proofs.lemmas.List.{length-map}
use Rattle.std.proofs.lemmas.Bool.{cases_lt, lt-ltb, le-ltb}

-- a place is the first one, and within
pub some_of : (k n i : ℕ) → cond (nat_lt k n) (Some k) None ≡ Some i → (k ≡ i) × (k < n)
some_of k n i e =
    elim (cases_lt k n) [
      | inl low ↦ (let f : cond (nat_lt k n) (Some k) None ≡ Some k = ap (λ b. cond b (Some k) None) (lt-ltb k n low) in let g : Some k ≡ Some i = sym f ∙ e in (cc), low)
      | inr high ↦ absurd (let f : cond (nat_lt k n) (Some k) None ≡ None = ap (λ b. cond b (Some k) None) (le-ltb k n high) in let g : None ≡ Some i = sym f ∙ e in cc)
    ]

is_some_cond : {X : Type 0} (t : Bool) (x : X) → is_some (cond t (Some x) None) ≡ t
is_some_cond true x = refl
is_some_cond false x = refl

any_step : {X : Type 0} (p : X → Bool) (xs : List X) (t : Bool) → nat_lt (prefix_len (λ x. not (p x)) xs) (length xs) ≡ list_any p xs
    → nat_lt (cond (not t) (1 + prefix_len (λ x. not (p x)) xs) 0) (suc (length xs)) ≡ (t || list_any p xs)
any_step p xs true e = grind (arith, nat_tests)
any_step p xs false e = (let h : nat_lt (1 + prefix_len (λ x. not (p x)) xs) (suc (length xs)) ≡ nat_lt (prefix_len (λ x. not (p x)) xs) (length xs) = grind (arith, nat_tests) in h) ∙ e

prefix_any : {X : Type 0} (p : X → Bool) (xs : List X) → nat_lt (prefix_len (λ x. not (p x)) xs) (length xs) ≡ list_any p xs
prefix_any p [] = grind (arith, nat_tests)
prefix_any p (x ∷ xs) = any_step p xs (p x) (prefix_any p xs)

-- a place is found where there is one
pub position_any : {X : Type 0} (p : X → Bool) (xs : List X) → is_some (position p xs) ≡ list_any p xs
position_any p xs = is_some_cond (nat_lt (prefix_len (λ x. not (p x)) xs) (length xs)) (prefix_len (λ x. not (p x)) xs) ∙ prefix_any p xs

abbrev Rows : Type 0
Rows = List (List ℕ × List ℕ)

abbrev keys : Rows → List (List ℕ)
keys rows = map (λ row. row.0) rows

value_step : (t : Bool) (r : List ℕ × List ℕ) (rows : Rows) (n : ℕ) (found : Option (List ℕ)) → (n < length rows → (d : List ℕ × List ℕ) → found ≡ Some (get_or rows n d).1)
    → cond (not t) (1 + n) 0 < suc (length rows) → (d : List ℕ × List ℕ) → cond t (Some r.1) found ≡ Some (get_or (r ∷ rows) (cond (not t) (1 + n) 0) d).1
value_step true r rows n found h l d = refl
value_step false r rows n found h l d = h (omega arith) d ∙ ap (λ m. Some (get_or (r ∷ rows) m d).1) (let e : suc n ≡ 1 + n = omega arith in e)

value_at : (p : List ℕ → Bool) (rows : Rows) → prefix_len (λ x. not (p x)) (keys rows) < length rows → (d : List ℕ × List ℕ) → lookup p rows ≡ Some (get_or rows (prefix_len (λ x. not (p x)) (keys rows)) d).1
value_at p [] l d = absurd (omega arith)
value_at p (r ∷ rows) l d = value_step (p r.0) r rows (prefix_len (λ x. not (p x)) (keys rows)) (lookup p rows) (value_at p rows) l d

pub lookup_some : (p : List ℕ → Bool) (rows : Rows) (at : ℕ) (d : List ℕ × List ℕ) → position p (keys rows) ≡ Some at → Some (get_or rows at d).1 ≡ lookup p rows
lookup_some p rows at d e =
    let h = some_of (prefix_len (λ x. not (p x)) (keys rows)) (length (keys rows)) at e in
    let k : length (keys rows) ≡ length rows = length-map rows (λ row. row.0) in
    let l : prefix_len (λ x. not (p x)) (keys rows) < length rows = omega (arith, h.1, k) in
    sym (value_at p rows l d ∙ ap (λ m. Some (get_or rows m d).1) h.0)

found_step : (t : Bool) (v : List ℕ) (found : Option (List ℕ)) (b : Bool) → is_some found ≡ b → is_some (cond t (Some v) found) ≡ (t || b)
found_step true v found b e = refl
found_step false v found b e = e

-- a key has a value where it is among the keys
pub lookup_any : (p : List ℕ → Bool) (rows : Rows) → is_some (lookup p rows) ≡ list_any p (keys rows)
lookup_any p [] = refl
lookup_any p (r ∷ rows) = found_step (p r.0) r.1 (lookup p rows) (list_any p (keys rows)) (lookup_any p rows)

none_is : (o : Option (List ℕ)) → is_some o ≡ false → None ≡ o
none_is None e = refl
none_is (Some v) e = absurd (cc)

pub lookup_none : (p : List ℕ → Bool) (rows : Rows) → position p (keys rows) ≡ None → None ≡ lookup p rows
lookup_none p rows e = none_is (lookup p rows) (lookup_any p rows ∙ sym (position_any p (keys rows)) ∙ ap is_some e)

-- one more name, which is new
pub named_more : (names : List (List ℕ)) (name : List ℕ) → list_any (bytes_eq name) names ≡ false → with_name names name ≡ names ++ name ∷ []
named_more names name e = rw e refl

pub map-last : {X Y : Type 0} (f : X → Y) (xs : List X) (x : X) → map f (xs ++ x ∷ []) ≡ map f xs ++ f x ∷ []
map-last f [] x = refl
map-last f (y ∷ ys) x = ap (λ zs. f y ∷ zs) (map-last f ys x)

-- the fault of a row whose index and name are these

pub given_new : (rows : Rows) (index : List ℕ) → mapped rows index ≡ None → given_fault rows (Some index) None ≡ Some Stray
given_new rows index e = rw e refl

pub given_again : (rows : Rows) (index name : List ℕ) (word : Option (List ℕ)) → mapped rows index ≡ Some name → given_fault rows (Some index) word ≡ Some MapTwice
given_again rows index name word e = rw e refl
