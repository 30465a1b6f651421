-- What is printed reads as the name again.
use Rattle.std.proofs.Common.{◌≡◌, ℕ, ◌==◌, ◌<◌, Bool, true, false, List, [], ◌∷◌, ◌++◌, ◌&&◌, length, Some, ap, ◌∙◌, arith, refl, inl, inr, ◌⊎◌, eqb}
use Rattle.std.proofs.lemmas.Bool.Decides.{nat_tests}
use Rattle.std.proofs.lemmas.List.Sums.{list_all-from_AllPass, AllPass-from_list_all}
use Rattle.std.specs.List.{list_all, AllPass}
use Rattle.vg_scan.specs.declared.chars.Chars.{Chars}
use Rattle.vg_scan.specs.Separators.{is_separator, is_bus_pair}
use Rattle.vg_scan.specs.Names.{before, canonical, plain, spelled}
use Rattle.vg_scan.specs.Printed.{is_own, printed, printed_byte, is_solid}
use Rattle.vg_scan.specs.References.{is_reference}

-- a byte that is neither a quote nor a backslash stands for itself
bare : (chars : Chars) (b : ℕ) (rest : List ℕ) → (b ≡ 92 → ⊥) → (b ≡ 34 → ⊥) → spelled chars false (b ∷ rest) ≡ before (plain chars b) (spelled chars false rest)
unfolding spelled
bare chars b rest e f = grind (arith, nat_tests)

escaped : (chars : Chars) (b : ℕ) (rest : List ℕ) → spelled chars false (92 ∷ b ∷ rest) ≡ before b (spelled chars false rest)
unfolding spelled
escaped chars b rest = refl

own_bare : (b : ℕ) → is_own b ≡ true → (b ≡ 92 → ⊥) × (b ≡ 34 → ⊥) × (b ≡ 42 → ⊥)
own_bare b e = (λ f. grind (arith, nat_tests), λ f. grind (arith, nat_tests), λ f. grind (arith, nat_tests))

eq_no : (a b : ℕ) → (a ≡ b → ⊥) → eqb a b ≡ false
eq_no a b e = grind (arith, nat_tests)

eq_yes : (a b : ℕ) → a ≡ b → eqb a b ≡ true
eq_yes a b e = grind (arith, nat_tests)

-- no separator and no bus delimiter is a letter, a digit or `_`, a quote or a backslash
record IsMark (b : ℕ) : Type 0 where
  pub no_own : is_own b ≡ false
  pub no_backslash : b ≡ 92 → ⊥
  pub no_quote : b ≡ 34 → ⊥
  pub no_star : b ≡ 42 → ⊥
  pub no_blank : is_solid b ≡ true

separator_mark : (b : ℕ) → is_separator b ≡ true → IsMark b
separator_mark b e = record {
  no_own = grind (arith, nat_tests);
  no_backslash = λ f. grind (arith, nat_tests);
  no_quote = λ f. grind (arith, nat_tests);
  no_star = λ f. grind (arith, nat_tests);
  no_blank = grind (arith, nat_tests);
}

left_mark : (l r : ℕ) → is_bus_pair l r ≡ true → IsMark l
left_mark l r e = record {
  no_own = grind (arith, nat_tests);
  no_backslash = λ f. grind (arith, nat_tests);
  no_quote = λ f. grind (arith, nat_tests);
  no_star = λ f. grind (arith, nat_tests);
  no_blank = grind (arith, nat_tests);
}

right_mark : (l r : ℕ) → is_bus_pair l r ≡ true → IsMark r
right_mark l r e = record {
  no_own = grind (arith, nat_tests);
  no_backslash = λ f. grind (arith, nat_tests);
  no_quote = λ f. grind (arith, nat_tests);
  no_star = λ f. grind (arith, nat_tests);
  no_blank = grind (arith, nat_tests);
}

apart_left : (d l r : ℕ) → is_separator d ≡ true → is_bus_pair l r ≡ true → l ≡ d → ⊥
apart_left d l r e f g = grind (arith, nat_tests)

apart_right : (d l r : ℕ) → is_separator d ≡ true → is_bus_pair l r ≡ true → r ≡ d → ⊥
apart_right d l r e f g = grind (arith, nat_tests)

apart : (l r : ℕ) → is_bus_pair l r ≡ true → r ≡ l → ⊥
apart l r f g = grind (arith, nat_tests)

own_apart : (b d : ℕ) → is_own b ≡ true → is_own d ≡ false → eqb b d ≡ false
own_apart b d e f = eq_no b d (λ g. let h : is_own b ≡ is_own d = ap is_own g in absurd (cc))

plain_own : (chars : Chars) (b : ℕ) → is_own b ≡ true → plain chars b ≡ b
plain_own chars b e =
    let d = own_apart b chars.divider e (separator_mark chars.divider chars.divides).no_own in
    let l = own_apart b chars.bus_left e (left_mark chars.bus_left chars.bus_right chars.encloses).no_own in
    let r = own_apart b chars.bus_right e (right_mark chars.bus_left chars.bus_right chars.encloses).no_own in
    rw d (rw l (rw r refl))

plain_left : (chars : Chars) → plain chars chars.bus_left ≡ 91
plain_left chars = rw (eq_no chars.bus_left chars.divider (apart_left chars.divider chars.bus_left chars.bus_right chars.divides chars.encloses)) (rw (eq_yes chars.bus_left chars.bus_left refl) refl)

plain_right : (chars : Chars) → plain chars chars.bus_right ≡ 93
plain_right chars =
    rw (eq_no chars.bus_right chars.divider (apart_right chars.divider chars.bus_left chars.bus_right chars.divides chars.encloses))
    (rw (eq_no chars.bus_right chars.bus_left (apart chars.bus_left chars.bus_right chars.encloses)) (rw (eq_yes chars.bus_right chars.bus_right refl) refl))

test : (b : Bool) → (b ≡ true) ⊎ (b ≡ false)
test true = inl refl
test false = inr refl

-- one printed byte reads as this byte
reads_byte : (chars : Chars) (b : ℕ) (rest : List ℕ) → spelled chars false (printed_byte chars b ++ rest) ≡ before b (spelled chars false rest)
reads_byte chars b rest =
    elim (test (is_own b)) [
      | inl own ↦ (let h = own_bare b own in rw own (bare chars b rest h.0 h.1 ∙ ap (λ c. before c (spelled chars false rest)) (plain_own chars b own)))
      | inr other ↦ (elim (test (b == 91)) [
        | inl left ↦ (let m = left_mark chars.bus_left chars.bus_right chars.encloses in
            rw other (rw left (bare chars chars.bus_left rest m.no_backslash m.no_quote ∙ ap (λ c. before c (spelled chars false rest)) (plain_left chars ∙ (grind (arith, nat_tests))))))
        | inr no_left ↦ (elim (test (b == 93)) [
          | inl right ↦ (let m = right_mark chars.bus_left chars.bus_right chars.encloses in
              rw other (rw no_left (rw right (bare chars chars.bus_right rest m.no_backslash m.no_quote ∙ ap (λ c. before c (spelled chars false rest)) (plain_right chars ∙ (grind (arith, nat_tests)))))))
          | inr no_right ↦ rw other (rw no_left (rw no_right (escaped chars b rest)))
        ])
      ])
    ]

reads_bytes : (chars : Chars) (name : List ℕ) → spelled chars false (printed chars name) ≡ Some name
unfolding spelled
reads_bytes chars [] = refl
reads_bytes chars (b ∷ bs) = reads_byte chars b (printed chars bs) ∙ ap (before b) (reads_bytes chars bs)

-- the bytes that are printed for one byte, none of them blank, and the first no star
some_byte : (chars : Chars) (b : ℕ) → is_reference (printed_byte chars b) ≡ false
some_byte chars b =
    elim (test (is_own b)) [
      | inl own ↦ rw own (eq_no b 42 (own_bare b own).2)
      | inr other ↦ (elim (test (b == 91)) [
        | inl left ↦ rw other (rw left (eq_no chars.bus_left 42 (left_mark chars.bus_left chars.bus_right chars.encloses).no_star))
        | inr no_left ↦ (elim (test (b == 93)) [
          | inl right ↦ rw other (rw no_left (rw right (eq_no chars.bus_right 42 (right_mark chars.bus_left chars.bus_right chars.encloses).no_star)))
          | inr no_right ↦ rw other (rw no_left (rw no_right refl))
        ])
      ])
    ]

own_solid : (b : ℕ) → is_own b ≡ true → is_solid b ≡ true
own_solid b e = grind (arith, nat_tests)

solid_byte : (chars : Chars) (b : ℕ) → is_solid b ≡ true → list_all is_solid (printed_byte chars b) ≡ true
solid_byte chars b e =
    elim (test (is_own b)) [
      | inl own ↦ rw own (rw (own_solid b own) refl)
      | inr other ↦ (elim (test (b == 91)) [
        | inl left ↦ rw other (rw left (rw (left_mark chars.bus_left chars.bus_right chars.encloses).no_blank refl))
        | inr no_left ↦ (elim (test (b == 93)) [
          | inl right ↦ rw other (rw no_left (rw right (rw (right_mark chars.bus_left chars.bus_right chars.encloses).no_blank refl)))
          | inr no_right ↦ rw other (rw no_left (rw no_right (rw e refl)))
        ])
      ])
    ]

both : (a b : Bool) → (a && b) ≡ true → (a ≡ true) × (b ≡ true)
both true b e = (refl, e)
both false b e = absurd (cc)

all-append : (xs ys : List ℕ) → list_all is_solid xs ≡ true → list_all is_solid ys ≡ true → list_all is_solid (xs ++ ys) ≡ true
all-append [] ys e f = f
all-append (x ∷ xs) ys e f = let h = both (is_solid x) (list_all is_solid xs) e in rw h.0 (all-append xs ys h.1 f)

solid_bytes : (chars : Chars) (name : List ℕ) → list_all is_solid name ≡ true → list_all is_solid (printed chars name) ≡ true
solid_bytes chars [] e = refl
solid_bytes chars (b ∷ bs) e =
    let h = both (is_solid b) (list_all is_solid bs) e in
    all-append (printed_byte chars b) (printed chars bs) (solid_byte chars b h.0) (solid_bytes chars bs h.1)

pub solid : (chars : Chars) (name : List ℕ) → AllPass is_solid name → AllPass is_solid (printed chars name)
solid chars name h = AllPass-from_list_all is_solid (printed chars name) (solid_bytes chars name (list_all-from_AllPass is_solid name h))

reference_first : (xs ys : List ℕ) → 0 < length xs → is_reference (xs ++ ys) ≡ is_reference xs
reference_first [] ys h = absurd (omega arith)
reference_first (x ∷ xs) ys h = refl

byte_length : (chars : Chars) (b : ℕ) → 0 < length (printed_byte chars b)
byte_length chars b = grind (arith, nat_tests)

pub no_reference : (chars : Chars) (name : List ℕ) → is_reference (printed chars name) ≡ false
no_reference chars [] = refl
no_reference chars (b ∷ bs) = reference_first (printed_byte chars b) (printed chars bs) (byte_length chars b) ∙ some_byte chars b

canonical_long : (chars : Chars) (xs ys : List ℕ) → 0 < length xs → canonical chars (xs ++ ys) ≡ spelled chars false (xs ++ ys)
canonical_long chars [] ys h = absurd (omega arith)
canonical_long chars (x ∷ xs) ys h = refl

pub reads_again : (chars : Chars) (name : List ℕ) → 0 < length name → canonical chars (printed chars name) ≡ Some name
reads_again chars [] h = absurd (omega arith)
reads_again chars (b ∷ bs) h = canonical_long chars (printed_byte chars b) (printed chars bs) (byte_length chars b) ∙ reads_bytes chars (b ∷ bs)

own_as_is : (chars : Chars) (b : ℕ) → is_own b ≡ true → printed_byte chars b ≡ b ∷ []
own_as_is chars b e = rw e refl

-- a name of bytes that stand for themselves is printed as it is
pub all_own_as_is : (chars : Chars) (name : List ℕ) → list_all is_own name ≡ true → printed chars name ≡ name
all_own_as_is chars [] e = refl
all_own_as_is chars (b ∷ bs) e =
    let own : is_own b ≡ true = grind (arith, nat_tests) in
    let rest : list_all is_own bs ≡ true = grind (arith, nat_tests) in
    rw own (ap (λ r. b ∷ r) (all_own_as_is chars bs rest))
