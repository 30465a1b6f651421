-- What is derived from the grammar of a library, statement by statement.
use Rattle.std.proofs.Common.{◌≡◌, ℕ, suc, Bool, true, List, [], ◌∷◌, ◌++◌, ◌⊎◌, inl, inr, append_assoc, refl}
use Rattle.std.specs.Bool.{⊤}
use Rattle.grammar_laws.specs.Grammar.{Part, Derives}
use Rattle.grammar_laws.specs.Grammar.Part.{one, nothing, both, either, many, named}
use Rattle.grammar_laws.specs.Grammar.Derives.{by_one, by_nothing, by_both, by_left, by_right, by_none, by_more, by_name}
use Rattle.lib_text.specs.declared.kind.Kind.{Kind}
use Rattle.lib_text.specs.declared.kind.Kind.TheVariants.{Library, Colon, Value, Open, Close, Begin, End, Semicolon}
use Rattle.lib_text.specs.Grammar.{Name, rules, library, group, simple as simple_attribute, complex as complex_attribute, is_library, is_cell, is_pin, is_word, is_no_cell, is_no_pin, is_colon, is_value, is_open, is_single, is_names, is_list, is_close, is_begin_in, is_end, is_semicolon}
use Rattle.lib_text.specs.Grammar.Name.{in_library, in_cell, inside}

-- a group of this name, with these arguments, may stand among such statements, and has such statements
pub data IsGroupIn : Name → Kind → Kind → Name → Type 0 where
  a_cell : {k l : Kind} → is_cell k ≡ true → is_single l ≡ true → IsGroupIn in_library k l in_cell
  no_cell : {k l : Kind} → is_no_cell k ≡ true → is_list l ≡ true → IsGroupIn in_library k l (inside 2)
  a_pin : {k l : Kind} → is_pin k ≡ true → is_names l ≡ true → IsGroupIn in_cell k l (inside 3)
  no_pin : {k l : Kind} → is_no_pin k ≡ true → is_list l ≡ true → IsGroupIn in_cell k l (inside 3)
  deeper : {k l : Kind} {depth : ℕ} → is_word k ≡ true → is_list l ≡ true → IsGroupIn (inside depth) k l (inside (suc depth))

-- Statements come first, and then the rest: a `;`, a simple attribute, a complex one, and a group.
pub data Items : Name → List Kind → List Kind → Type 0 where
  no_item : {n : Name} {rest : List Kind} → Items n rest rest
  semicolon : {n : Name} {ks rest : List Kind} → Items n ks rest → Items n (Semicolon ∷ ks) rest
  simple : {n : Name} {k : Kind} {ks rest : List Kind} → is_word k ≡ true → Items n ks rest → Items n (k ∷ Colon ∷ Value ∷ ks) rest
  complex : {n : Name} {k l : Kind} {ks rest : List Kind}
      → is_word k ≡ true → is_list l ≡ true → Items n ks rest → Items n (k ∷ Open ∷ l ∷ Close ∷ ks) rest
  group_of : {n inner : Name} {k l : Kind} {us ks rest : List Kind}
      → IsGroupIn n k l inner → Items inner us (End ∷ ks) → Items n ks rest → Items n (k ∷ Open ∷ l ∷ Close ∷ Begin ∷ us) rest

-- ---- tests that one kind passes

colon_is : (k : Kind) → is_colon k ≡ true → k ≡ Colon
colon_is Colon e = refl
colon_is _ e = absurd (cc)

value_is : (k : Kind) → is_value k ≡ true → k ≡ Value
value_is Value e = refl
value_is _ e = absurd (cc)

open_is : (k : Kind) → is_open k ≡ true → k ≡ Open
open_is Open e = refl
open_is _ e = absurd (cc)

close_is : (k : Kind) → is_close k ≡ true → k ≡ Close
close_is Close e = refl
close_is _ e = absurd (cc)

begin_is : (k : Kind) (depth : ℕ) → is_begin_in depth k ≡ true → k ≡ Begin
begin_is Begin depth e = refl
begin_is _ depth e = absurd (cc)

end_is : (k : Kind) → is_end k ≡ true → k ≡ End
end_is End e = refl
end_is _ e = absurd (cc)

semicolon_is : (k : Kind) → is_semicolon k ≡ true → k ≡ Semicolon
semicolon_is Semicolon e = refl
semicolon_is _ e = absurd (cc)

-- ---- what is derived

-- these come before any statements
abbrev One : Name → List Kind → Type 0
One n xs = (ks rest : List Kind) → Items n ks rest → Items n (xs ++ ks) rest

-- these are statements, before any rest
abbrev Some : Part Name Kind → List Kind → Type 0
Some (named n) xs = (rest : List Kind) → Items n (xs ++ rest) rest
Some _ xs = ⊤

-- what the tokens of a part are
abbrev Are : Part Name Kind → List Kind → Type 0
Are (one test) xs = (k : Kind) × (test k ≡ true) × (xs ≡ k ∷ [])
Are nothing xs = xs ≡ []
Are (both a b) xs = (us : List Kind) × (vs : List Kind) × Are a us × Are b vs × (xs ≡ us ++ vs)
Are (either a b) xs = Are a xs ⊎ Are b xs
Are (many a) xs = Some a xs
Are (named n) xs = One n xs

semicolon_of : (n : Name) (xs : List Kind) → Are (one is_semicolon) xs → One n xs
semicolon_of n xs (k, e, f) ks rest h = rw (f, semicolon_is k e) (semicolon h)

simple_of : (n : Name) (xs : List Kind) → Are simple_attribute xs → One n xs
simple_of n xs (us, vs, (k, e, f), (us', vs', (c, e', f'), (us2, vs2, (v, e2, f2), z, g2), g'), g) ks rest h =
    rw (g, f, g', f', g2, f2, z, colon_is c e', value_is v e2) (simple e h)

complex_of : (n : Name) (xs : List Kind) → Are complex_attribute xs → One n xs
complex_of n xs (us, vs, (k, e, f), (us', vs', (c, e', f'), (us2, vs2, (l, e2, f2), (us3, vs3, (c3, e3, f3), z, g3), g2), g'), g) ks rest h =
    rw (g, f, g', f', g2, f2, g3, f3, z, open_is c e', close_is c3 e3) (complex e e2 h)

-- a group of such a name, with such arguments, may stand among such statements
abbrev MayStand : Name → (Kind → Bool) → (Kind → Bool) → Name → Type 0
MayStand n word names inner = (k l : Kind) → word k ≡ true → names l ≡ true → IsGroupIn n k l inner

group_in : (n : Name) (word names : Kind → Bool) (inner : Name) (depth : ℕ) (xs : List Kind) → MayStand n word names inner
    → Are (group word names inner depth) xs → One n xs
group_in n word names inner depth xs may (
  us,
  vs,
  (k, e, f),
  (
    us',
    vs',
    (c, e', f'),
    (
      us2,
      vs2,
      (l, e2, f2),
      (
        us3,
        vs3,
        (c3, e3, f3),
        (us4, vs4, (b, e4, f4), (us5, vs5, m, (us6, vs6, (x, e6, f6), z, g6), g5), g4),
        g3,
      ),
      g2,
    ),
    g',
  ),
  g,
) ks rest h =
    rw (g, f, g', f', g2, f2, g3, f3, g4, f4, g5, g6, f6, z, open_is c e', close_is c3 e3, begin_is b depth e4, end_is x e6, append_assoc us5 (End ∷ []) ks)
    (group_of (may k l e e2) (m (End ∷ ks)) h)

item_of : (n : Name) (xs : List Kind) → Are (rules n) xs → One n xs
item_of in_library xs (inl d) = semicolon_of in_library xs d
item_of in_library xs (inr (inl d)) = simple_of in_library xs d
item_of in_library xs (inr (inr (inl d))) = complex_of in_library xs d
item_of in_library xs (inr (inr (inr (inl d)))) = group_in in_library is_cell is_single in_cell 1 xs (λ k l. a_cell) d
item_of in_library xs (inr (inr (inr (inr d)))) = group_in in_library is_no_cell is_list (inside 2) 1 xs (λ k l. no_cell) d
item_of in_cell xs (inl d) = semicolon_of in_cell xs d
item_of in_cell xs (inr (inl d)) = simple_of in_cell xs d
item_of in_cell xs (inr (inr (inl d))) = complex_of in_cell xs d
item_of in_cell xs (inr (inr (inr (inl d)))) = group_in in_cell is_pin is_names (inside 3) 2 xs (λ k l. a_pin) d
item_of in_cell xs (inr (inr (inr (inr d)))) = group_in in_cell is_no_pin is_list (inside 3) 2 xs (λ k l. no_pin) d
item_of (inside depth) xs (inl d) = semicolon_of (inside depth) xs d
item_of (inside depth) xs (inr (inl d)) = simple_of (inside depth) xs d
item_of (inside depth) xs (inr (inr (inl d))) = complex_of (inside depth) xs d
item_of (inside depth) xs (inr (inr (inr d))) = group_in (inside depth) is_word is_list (inside (suc depth)) depth xs (λ k l. deeper) d

none_of : (a : Part Name Kind) → Some a []
none_of (named n) = λ rest. no_item
none_of _ = tt

more_of : (a : Part Name Kind) (xs ys : List Kind) → Are a xs → Some a ys → Some a (xs ++ ys)
more_of (named n) xs ys this more = λ rest. rw (append_assoc xs ys rest) (this (ys ++ rest) rest (more rest))
more_of (one test) xs ys this more = tt
more_of _ xs ys this more = tt

are : {p : Part Name Kind} {xs : List Kind} → Derives rules p xs → Are p xs
are (by_one {t} e) = (t, e, refl)
are by_nothing = refl
are (by_both {xs} {ys} d k) = (xs, ys, are d, are k, refl)
are (by_left d) = inl (are d)
are (by_right d) = inr (are d)
are (by_none {a}) = none_of a
are (by_more {a} {xs} {ys} d k) = more_of a xs ys (are d) (are k)
are (by_name {n} {xs} d) = item_of n xs (are d)

-- the tokens of a library: its own group, with statements in it
pub record IsLibraryOf (ks : List Kind) : Type 0 where
  pub name : Kind
  pub list : Kind
  pub us : List Kind
  pub is_name : is_word name ≡ true
  pub is_arguments : is_list list ≡ true
  pub items : Items in_library us (End ∷ [])
  pub cut : ks ≡ name ∷ Open ∷ list ∷ Close ∷ Begin ∷ us

library_word : (k : Kind) → is_library k ≡ true → is_word k ≡ true
library_word Library e = refl
library_word _ e = absurd (cc)

whole_of : (xs : List Kind) → Are library xs → IsLibraryOf xs
whole_of xs (
  us,
  vs,
  (k, e, f),
  (
    us',
    vs',
    (c, e', f'),
    (
      us2,
      vs2,
      (l, e2, f2),
      (
        us3,
        vs3,
        (c3, e3, f3),
        (us4, vs4, (b, e4, f4), (us5, vs5, m, (us6, vs6, (x, e6, f6), z, g6), g5), g4),
        g3,
      ),
      g2,
    ),
    g',
  ),
  g,
) = record {
  name = k;
  list = l;
  us = us5 ++ End ∷ [];
  is_name = library_word k e;
  is_arguments = e2;
  items = m (End ∷ []);
  cut = rw (g, f, g', f', g2, f2, g3, f3, g4, f4, g5, g6, f6, z, open_is c e', close_is c3 e3, begin_is b 0 e4, end_is x e6) refl;
}

pub library_items : (ks : List Kind) → Derives rules library ks → IsLibraryOf ks
library_items ks d = whole_of ks (are d)
