-- A note with the cell of a pin is one.
use Rattle.std.proofs.Common.{◌≡◌, ℕ, ◌+◌, ◌-◌, ◌<◌, ◌==◌, ◌||◌, Bool, true, false, not, cond, List, [], ◌∷◌, ◌++◌, length, slice_index, codes, refl, sym, ap, ◌∙◌, subst, arith, inl, inr}
use Rattle.std.specs.List.{AllPass}
use Rattle.std.proofs.lemmas.Bool.{cases_Bool, ne_eqb}
use Rattle.std.proofs.lemmas.Bool.Decides.{nat_tests}
use Rattle.std.proofs.lemmas.List.{append-nil, get_or-append-add, length-append}
use Rattle.std.proofs.lemmas.List.Elements.{All-append, All-cons, All-nil, All-weaker}
use Rattle.vg_scan.specs.Lines.{is_blank, is_newline}
use Rattle.vg_scan.specs.Printed.{is_own, is_solid, IsPrintable, printed, printed_byte}
use Rattle.vg_scan.specs.Separators.{is_bus_pair}
use Rattle.vg_scan.specs.declared.chars.Chars.{Chars}
use Rattle.vg_scan.proofs.PrintedLemmas.{solid}
use Rattle.spef_net.specs.Lines.{is_space}
use Rattle.spef_net.specs.Nets.{in_line, IsNote}
use Rattle.vg_split.specs.Splits.{with_cell}

-- a text that ends with no space
record IsShut (text : List ℕ) : Type 0 where
  pub some : 0 < length text
  pub shut : is_space (slice_index text (length text - 1)) ≡ false

shut_byte : (b : ℕ) → is_space b ≡ false → IsShut (b ∷ [])
shut_byte b e = record { some = omega arith; shut = e }

shut_behind : (xs ys : List ℕ) → IsShut ys → IsShut (xs ++ ys)
shut_behind xs ys is =
    let last : length (xs ++ ys) - 1 ≡ length xs + (length ys - 1) = omega (arith, is.some, length-append xs ys) in
    record {
      some = omega (arith, is.some, length-append xs ys);
      shut = ap (λ n. is_space (slice_index (xs ++ ys) n)) last ∙ ap is_space (get_or-append-add xs ys (length ys - 1) 0) ∙ is.shut;
    }

own_ink : (b : ℕ) → is_own b ≡ true → is_space b ≡ false
own_ink b e = grind (arith, nat_tests)

left_ink : (l r : ℕ) → is_bus_pair l r ≡ true → is_space l ≡ false
left_ink l r e = grind (arith, nat_tests)

right_ink : (l r : ℕ) → is_bus_pair l r ≡ true → is_space r ≡ false
right_ink l r e = grind (arith, nat_tests)

byte_shut : (chars : Chars) (b : ℕ) → is_space b ≡ false → IsShut (printed_byte chars b)
byte_shut chars b ink =
    elim (cases_Bool (is_own b)) as (λ _. IsShut (printed_byte chars b)) [
      | inl own ↦ rw own (shut_byte b ink)
      | inr other ↦ elim (cases_Bool (b == 91)) as (λ _. IsShut (printed_byte chars b)) [
        | inl left ↦ rw (other, left) (shut_byte chars.bus_left (left_ink chars.bus_left chars.bus_right chars.encloses))
        | inr no_left ↦ elim (cases_Bool (b == 93)) as (λ _. IsShut (printed_byte chars b)) [
          | inl right ↦ rw (other, no_left, right) (shut_byte chars.bus_right (right_ink chars.bus_left chars.bus_right chars.encloses))
          | inr no_right ↦ rw (other, no_left, no_right) (shut_behind (92 ∷ []) (b ∷ []) (shut_byte b ink))
        ]
      ]
    ]

name_shut : (chars : Chars) (name : List ℕ) → IsShut name → IsShut (printed chars name)
name_shut chars [] is = absurd (omega (arith, is.some))
name_shut chars (b ∷ []) is = subst IsShut (sym (append-nil (printed_byte chars b))) (byte_shut chars b is.shut)
name_shut chars (b ∷ c ∷ bs) is =
    let last : length (b ∷ c ∷ bs) - 1 ≡ 1 + (length (c ∷ bs) - 1) = omega arith in
    shut_behind (printed_byte chars b) (printed chars (c ∷ bs)) (name_shut chars (c ∷ bs) (record {
      some = omega arith;
      shut = sym (ap (λ n. is_space (slice_index (b ∷ c ∷ bs) n)) last ∙ ap is_space (get_or-append-add (b ∷ []) (c ∷ bs) (length (c ∷ bs) - 1) 0)) ∙ is.shut;
    }))

-- a name is on one line
solid_line : (b : ℕ) → is_solid b ≡ true → in_line b ≡ true
solid_line b e = go (is_blank b) (is_newline b) e
  where
    go : (blank newline : Bool) → not (blank || newline) ≡ true → not newline ≡ true
    go true newline e = absurd (cc)
    go false newline e = e

abbrev AreInLine : List ℕ → Type 0
AreInLine text = AllPass in_line text

front : Bool → List ℕ → List ℕ
front none note = cond none [] (note ++ codes " ")

in_front : (none : Bool) (note : List ℕ) → AreInLine note → AreInLine (front none note)
unfolding front
in_front true note inside = All-nil (λ b. in_line b ≡ true)
in_front false note inside =
    All-append (λ b. in_line b ≡ true) note (codes " ") inside (All-cons (λ b. in_line b ≡ true) 32 [] refl (All-nil (λ b. in_line b ≡ true)))

begins_so : (note rest : List ℕ) → IsNote note → is_space (slice_index ((front (length note == 0) note ++ codes "*D ") ++ rest) 0) ≡ false
unfolding front
begins_so [] rest is = refl
begins_so (b ∷ bs) rest is =
    let some : (length (b ∷ bs) == 0) ≡ false = ne_eqb (length (b ∷ bs)) 0 (λ e. omega (arith, e)) in
    ap (λ none. is_space (slice_index ((cond none [] ((b ∷ bs) ++ codes " ") ++ codes "*D ") ++ rest) 0)) some ∙ is.begins (omega arith)

pub note_with : (chars : Chars) (note cell : List ℕ) → IsNote note → IsPrintable cell → is_space (slice_index cell (length cell - 1)) ≡ false
    → IsNote (with_cell chars note cell)
unfolding front
note_with chars note cell is printable ink =
    let before = front (length note == 0) note ++ codes "*D " in
    record {
      one_line =
          All-append (λ b. in_line b ≡ true) before (printed chars cell)
          (All-append (λ b. in_line b ≡ true) (front (length note == 0) note) (codes "*D ") (in_front (length note == 0) note is.one_line) mark)
          (All-weaker (λ b. is_solid b ≡ true) (λ b. in_line b ≡ true) solid_line (printed chars cell) (solid chars cell printable.solid));
      begins = λ _. begins_so note (printed chars cell) is;
      ends = λ _. (shut_behind before (printed chars cell) (name_shut chars cell (record { some = printable.some; shut = ink }))).shut;
    }
  where
    mark : AreInLine (codes "*D ")
    mark =
        All-cons (λ b. in_line b ≡ true) 42 (68 ∷ 32 ∷ []) refl
        (All-cons (λ b. in_line b ≡ true) 68 (32 ∷ []) refl (All-cons (λ b. in_line b ≡ true) 32 [] refl (All-nil (λ b. in_line b ≡ true))))
