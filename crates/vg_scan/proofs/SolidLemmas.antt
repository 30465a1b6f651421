-- Words have no blanks and no newlines, and their names neither.
use Rattle.std.proofs.Common.{◌≡◌, ℕ, suc, ◌<◌, ◌==◌, ◌&&◌, Bool, true, false, cond, not, nat_lt, List, [], ◌∷◌, length, take, get_or, map, filter, refl, sym, ap, arith, subst, Option, Some, None, zero, ◌-◌}
use Rattle.std.proofs.lemmas.List.Sums.{AllPass-from_list_all, list_all-from_AllPass}
use Rattle.std.proofs.lemmas.Option.{same_Some}
use Rattle.std.specs.List.{All, AllPass, list_all, slice_split, onto_first}
use Rattle.std.specs.Str.Lines.{lines, lines_of_parts, strip_carriage_return}
use Rattle.vg_scan.specs.Lines.{is_blank, is_newline, words, Line, lines_of}
use Rattle.vg_scan.specs.Names.{is_backslash, is_quote, plain, before, spelled, canonical}
use Rattle.vg_scan.specs.Printed.{is_solid, IsPrintable}
use Rattle.vg_scan.specs.declared.chars.Chars.{Chars}
use Rattle.vg_scan.proofs.LineLemmas.{parts_cons}

both : (a b : Bool) → (a && b) ≡ true → (a ≡ true) × (b ≡ true)
both true b e = (refl, e)
both false b e = absurd (cc)

and_true : (a b : Bool) → a ≡ true → b ≡ true → (a && b) ≡ true
and_true a b e f = rw (e, f) refl

-- each part of a text between bytes of one kind has none of them, and only bytes of the text
module _ (q p r : ℕ → Bool) (more : (b : ℕ) → q b ≡ false → p b ≡ true → r b ≡ true) where
  part_step : (t : Bool) (b : ℕ) (x : List ℕ) (rest : List (List ℕ)) → q b ≡ t → p b ≡ true → list_all (list_all r) (x ∷ rest) ≡ true
      → list_all (list_all r) (cond t ([] ∷ x ∷ rest) (onto_first b (x ∷ rest))) ≡ true
  part_step true b x rest e f h = h
  part_step false b x rest e f h =
      let k = both (list_all r x) (list_all (list_all r) rest) h in
      and_true (r b && list_all r x) (list_all (list_all r) rest) (and_true (r b) (list_all r x) (more b e f) k.0) k.1

  pub parts_pass : (xs : List ℕ) → list_all p xs ≡ true → list_all (list_all r) (slice_split q xs) ≡ true
  parts_pass [] e = refl
  parts_pass (b ∷ bs) e =
      let k = both (p b) (list_all p bs) e in
      let (x, rest, s) = parts_cons q bs in
      let h : list_all (list_all r) (x ∷ rest) ≡ true = subst (λ (ps : List (List ℕ)). list_all (list_all r) ps ≡ true) s (parts_pass bs k.1) in
      subst (λ (ps : List (List ℕ)). list_all (list_all r) (cond (q b) ([] ∷ ps) (onto_first b ps)) ≡ true) (sym s) (part_step (q b) b x rest refl k.0 h)

all_filter : (t : List ℕ → Bool) (p : List ℕ → Bool) (xs : List (List ℕ)) → list_all p xs ≡ true → list_all p (filter t xs) ≡ true
all_filter t p [] e = refl
all_filter t p (x ∷ xs) e = (let k = both (p x) (list_all p xs) e in step (t x) k.0 (all_filter t p xs k.1))
  where
    step : (b : Bool) → p x ≡ true → list_all p (filter t xs) ≡ true → list_all p (cond b (x ∷ filter t xs) (filter t xs)) ≡ true
    step true f h = and_true (p x) (list_all p (filter t xs)) f h
    step false f h = h

all_take : (p : ℕ → Bool) (n : ℕ) (xs : List ℕ) → list_all p xs ≡ true → list_all p (take n xs) ≡ true
all_take p zero xs e = refl
all_take p (suc n) [] e = refl
all_take p (suc n) (x ∷ xs) e = (let k = both (p x) (list_all p xs) e in and_true (p x) (list_all p (take n xs)) k.0 (all_take p n xs k.1))

either : (p : ℕ → Bool) (t : Bool) (xs ys : List ℕ) → list_all p xs ≡ true → list_all p ys ≡ true → list_all p (cond t xs ys) ≡ true
either p true xs ys e f = e
either p false xs ys e f = f

last_pass : (p : ℕ → Bool) (t : Bool) (x : List ℕ) → list_all p x ≡ true → list_all (list_all p) (cond t [] (x ∷ [])) ≡ true
last_pass p true x e = refl
last_pass p false x e = and_true (list_all p x) true e refl

lines_pass : (p : ℕ → Bool) (parts : List (List ℕ)) → list_all (list_all p) parts ≡ true → list_all (list_all p) (lines_of_parts parts) ≡ true
lines_pass p [] e = refl
lines_pass p (x ∷ []) e = last_pass p (length x == 0) x (both (list_all p x) true e).0
lines_pass p (x ∷ y ∷ more) e =
    let k = both (list_all p x) (list_all (list_all p) (y ∷ more)) e in
    and_true (list_all p (strip_carriage_return x)) (list_all (list_all p) (lines_of_parts (y ∷ more)))
    (either p (get_or x (length x - 1) 0 == 13) (take (length x - 1) x) x (all_take p (length x - 1) x k.0) k.0) (lines_pass p (y ∷ more) k.1)

abbrev in_line : ℕ → Bool
in_line b = not (is_newline b)

any_byte : (xs : List ℕ) → list_all (λ _. true) xs ≡ true
any_byte [] = refl
any_byte (x ∷ xs) = any_byte xs

-- no line of a text has a newline
pub lines_inside : (text : List ℕ) → list_all (list_all in_line) (lines text) ≡ true
lines_inside text = lines_pass in_line (slice_split is_newline text) (parts_pass is_newline (λ _. true) in_line (λ b e f. ap not e) text (any_byte text))

solid_is : (b : ℕ) → is_blank b ≡ false → in_line b ≡ true → is_solid b ≡ true
solid_is b e f = rw e f

words_pass : (line : List ℕ) → list_all in_line line ≡ true → list_all (list_all is_solid) (words line) ≡ true
unfolding words
words_pass line e = all_filter (λ w. nat_lt 0 (length w)) (list_all is_solid) (slice_split is_blank line) (parts_pass is_blank in_line is_solid solid_is line e)

-- the words of a line without newlines
pub words_solid : (line : List ℕ) → AllPass in_line line → All (AllPass is_solid) (words line)
words_solid line h = λ k d l. AllPass-from_list_all is_solid (get_or (words line) k d) (AllPass-from_list_all (list_all is_solid) (words line) (words_pass line (list_all-from_AllPass in_line line h)) k d l)

-- the lines of a text
pub lines_are_inside : (text : List ℕ) → All (AllPass in_line) (lines text)
lines_are_inside text = λ k d l. AllPass-from_list_all in_line (get_or (lines text) k d) (AllPass-from_list_all (list_all in_line) (lines text) (lines_inside text) k d l)

pub record AreSolid (line : Line) : Type 0 where
  pub words : All (AllPass is_solid) line

all_cons : {X : Type 0} (P : X → Type 0) (x : X) (xs : List X) → P x → All P xs → All P (x ∷ xs)
all_cons P x xs p h zero d l = p
all_cons P x xs p h (suc k) d l = h k d (omega arith)

solid_lines : (ls : List (List ℕ)) → list_all (list_all in_line) ls ≡ true → All AreSolid (map words ls)
solid_lines [] e = λ k d l. absurd (omega arith)
solid_lines (line ∷ ls) e =
    let kept = both (list_all in_line line) (list_all (list_all in_line) ls) e in
    all_cons AreSolid (words line) (map words ls) (record { words = words_solid line (AllPass-from_list_all in_line line kept.0) }) (solid_lines ls kept.1)

-- the words of a text
pub text_solid : (text : List ℕ) → All AreSolid (lines_of text)
unfolding lines_of
text_solid text = solid_lines (lines text) (lines_inside text)

-- names

plain_solid : (chars : Chars) (b : ℕ) → is_solid b ≡ true → is_solid (plain chars b) ≡ true
plain_solid chars b e = pick (b == chars.divider) 47 _ refl (pick (b == chars.bus_left) 91 _ refl (pick (b == chars.bus_right) 93 b refl e))
  where
    pick : (t : Bool) (x y : ℕ) → is_solid x ≡ true → is_solid y ≡ true → is_solid (cond t x y) ≡ true
    pick true x y f g = f
    pick false x y f g = g

-- a name, if there is one, has no blanks and no newlines
record SolidName (o : Option (List ℕ)) : Type 0 where
  solid : (name : List ℕ) → o ≡ Some name → list_all is_solid name ≡ true

none_solid : SolidName None
none_solid = record { solid = λ name e. absurd (cc) }

before_solid : (b : ℕ) (o : Option (List ℕ)) → is_solid b ≡ true → SolidName o → SolidName (before b o)
before_solid b None e h = none_solid
before_solid b (Some bytes) e h = record {
  solid = λ name f. subst (λ (n : List ℕ). list_all is_solid n ≡ true) (same_Some _ _ f) (and_true (is_solid b) (list_all is_solid bytes) e (h.solid bytes refl));
}

solid_if : (t : Bool) (x y : Option (List ℕ)) → SolidName x → SolidName y → SolidName (cond t x y)
solid_if true x y f g = f
solid_if false x y f g = g

spelled_solid : (chars : Chars) (t : Bool) (text : List ℕ) → list_all is_solid text ≡ true → SolidName (spelled chars t text)
unfolding spelled
spelled_solid chars true [] e = none_solid
spelled_solid chars true (b ∷ bs) e = (let k = both (is_solid b) (list_all is_solid bs) e in before_solid b (spelled chars false bs) k.0 (spelled_solid chars false bs k.1))
spelled_solid chars false [] e = record { solid = λ name f. subst (λ (n : List ℕ). list_all is_solid n ≡ true) (same_Some _ _ f) refl }
spelled_solid chars false (b ∷ bs) e =
    let k = both (is_solid b) (list_all is_solid bs) e in
    solid_if (is_backslash b) (spelled chars true bs) _ (spelled_solid chars true bs k.1)
    (solid_if (is_quote b) None (before (plain chars b) (spelled chars false bs)) none_solid
    (before_solid (plain chars b) (spelled chars false bs) (plain_solid chars b k.0) (spelled_solid chars false bs k.1)))

-- and is not empty
record SomeName (o : Option (List ℕ)) : Type 0 where
  some : (name : List ℕ) → o ≡ Some name → 0 < length name

none_some : SomeName None
none_some = record { some = λ name e. absurd (cc) }

before_some : (b : ℕ) (o : Option (List ℕ)) → SomeName (before b o)
before_some b None = none_some
before_some b (Some bytes) = record { some = λ name f. subst (λ (n : List ℕ). 0 < length n) (same_Some _ _ f) (omega arith) }

some_if : (t : Bool) (x y : Option (List ℕ)) → SomeName x → SomeName y → SomeName (cond t x y)
some_if true x y f g = f
some_if false x y f g = g

escaped_some : (chars : Chars) (text : List ℕ) → SomeName (spelled chars true text)
unfolding spelled
escaped_some chars [] = none_some
escaped_some chars (b ∷ bs) = before_some b (spelled chars false bs)

canonical_some : (chars : Chars) (text : List ℕ) → SomeName (canonical chars text)
unfolding spelled
canonical_some chars [] = none_some
canonical_some chars (b ∷ bs) = some_if (is_backslash b) (spelled chars true bs) _ (escaped_some chars bs) (some_if (is_quote b) None (before (plain chars b) (spelled chars false bs)) none_some (before_some (plain chars b) (spelled chars false bs)))

canonical_solid : (chars : Chars) (text : List ℕ) → list_all is_solid text ≡ true → SolidName (canonical chars text)
canonical_solid chars [] e = none_solid
canonical_solid chars (b ∷ bs) e = spelled_solid chars false (b ∷ bs) e

-- the canonical name of a word can be a word
pub canonical_printable : (chars : Chars) (text name : List ℕ) → AllPass is_solid text → canonical chars text ≡ Some name → IsPrintable name
canonical_printable chars text name h e = record {
  some = (canonical_some chars text).some name e;
  solid = AllPass-from_list_all is_solid name ((canonical_solid chars text (list_all-from_AllPass is_solid text h)).solid name e);
}
