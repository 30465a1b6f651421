-- The repeaters of a library have names, and these can be words.
use Rattle.std.proofs.Common.{◌≡◌, ℕ, ◌-◌, ◌<◌, ◌≤◌, ◌==◌, nat_le, nat_lt, Bool, true, false, List, [], ◌∷◌, ◌⊎◌, inl, inr, map, length, slice_index, refl, arith, subst, if◌then◌else◌}
use Rattle.std.specs.List.{All, AllPass, flat_map, list_all, onto_first}
use Rattle.std.proofs.lemmas.Bool.{and_parts}
use Rattle.std.proofs.lemmas.Bool.Decides.{nat_tests}
use Rattle.std.proofs.lemmas.List.Elements.{All-append, All-cons, All-get_or, All-head, All-map, All-nil, All-tail, All-weaker}
use Rattle.std.proofs.lemmas.List.Sorted.{All-permutation}
use Rattle.std.proofs.lemmas.List.Sums.{AllPass-from_list_all}
use Rattle.vg_scan.specs.Printed.{is_solid, IsPrintable}
use Rattle.lib_text.specs.Arguments.{are_names, arguments_of, is_comma, is_name, is_name_byte, parts_of, trimmed, unquoted}
use Rattle.lib_text.specs.Groups.{Group, names_of}
use Rattle.lib_text.specs.Strings.{quoting_after}
use Rattle.lib_cells.specs.Cells.{first_name, pin_groups, pin_info, pins_of}
use Rattle.lib_cells.specs.PinInfos.{PinInfo}
use Rattle.lib_cells.specs.declared.units.Units.{Units}
use Rattle.lib_linear.specs.Libraries.{plain}
use Rattle.lib_linear.specs.Repeaters.{AreRepeaters, IsRepeater}
use Rattle.lib_linear.specs.Repeaters.AreRepeaters.{no_cell, taken, passed}
use Rattle.lib_linear.specs.declared.repeater.Repeater.{Repeater}
use Rattle.lib_laws.specs.NameLaws.{HasNames, HasPrintableNames, is_blank_or_return, NamesAreNames, NamesAreWords}
use Rattle.lib_laws.proofs.GroupLemmas.{HasArguments, HasItsNames, library_named}

-- ---- the names of a cell and of its pins

-- a list has an argument, be it empty
some_part : (quoting : _) (bs : List ℕ) → 0 < length (parts_of quoting bs)
unfolding parts_of
some_part quoting [] = omega arith
some_part quoting (b ∷ bs) = by_test (is_comma quoting b) (parts_of (quoting_after quoting b) bs)
  where
    by_test : (t : Bool) (parts : List (List ℕ)) → 0 < length (if t then [] ∷ parts else onto_first b parts)
    by_test true parts = omega arith
    by_test false [] = omega arith
    by_test false (x ∷ parts) = omega arith

first_named : (list : List ℕ) → are_names list ≡ true → is_name (first_name (arguments_of list)) ≡ true
first_named list e = by_parts (parts_of _ list) (some_part _ list) e
  where
    by_parts : (parts : List (List ℕ)) → 0 < length parts → list_all is_name (map (λ part. unquoted (trimmed part)) parts) ≡ true
        → is_name (first_name (map (λ part. unquoted (trimmed part)) parts)) ≡ true
    by_parts [] l e = absurd (omega arith)
    by_parts (part ∷ parts) l e =
        (and_parts (is_name (unquoted (trimmed part))) (list_all is_name (map (λ part. unquoted (trimmed part)) parts)) e).0

module _ (units : Units) where
  abbrev IsNamed : PinInfo → Type 0
  IsNamed pin = is_name pin.name ≡ true

  pin_named : (pin : Group) → HasArguments pin → All IsNamed (map (pin_info units pin) (names_of pin))
  pin_named pin e = All-map IsNamed (pin_info units pin) (names_of pin) (AllPass-from_list_all is_name (names_of pin) e)

  pins_named : (pins : List Group) → All HasArguments pins → All IsNamed (flat_map (λ pin. map (pin_info units pin) (names_of pin)) pins)
  pins_named [] all = All-nil IsNamed
  pins_named (pin ∷ pins) all =
      All-append IsNamed (map (pin_info units pin) (names_of pin)) (flat_map (λ pin. map (pin_info units pin) (names_of pin)) pins)
      (pin_named pin (All-head HasArguments pin pins all)) (pins_named pins (All-tail HasArguments pin pins all))

  -- ---- the repeaters

  two_named : (a b : PinInfo) → All IsNamed (a ∷ b ∷ []) → IsNamed a × IsNamed b
  two_named a b all = (All-head IsNamed a (b ∷ []) all, All-head IsNamed b [] (All-tail IsNamed a (b ∷ []) all))

  ends_named : (pins : List PinInfo) (input output : PinInfo) → All IsNamed pins
      → (pins ≡ input ∷ output ∷ []) ⊎ (pins ≡ output ∷ input ∷ []) → IsNamed input × IsNamed output
  ends_named pins input output all (inl e) = two_named input output (subst (All IsNamed) e all)
  ends_named pins input output all (inr e) = let t = two_named output input (subst (All IsNamed) e all) in (t.1, t.0)

  repeater_named : (cell : Group) (r : Repeater) → HasItsNames cell → IsRepeater units cell r → HasNames r
  repeater_named cell r h is =
      let t = ends_named (pins_of units cell) is.input is.output (pins_named (pin_groups cell) h.pins) is.parts.pins.two in
      record {
        cell = rw is.cell_name (first_named _ h.arguments);
        input = rw is.input_name t.0;
        output = rw is.output_name t.1;
      }

  repeaters_named : {cells : List Group} {found : List Repeater} → All HasItsNames cells → AreRepeaters units cells found → All HasNames found
  repeaters_named all no_cell = All-nil HasNames
  repeaters_named all (taken {cell} {cells} {r} {reps} is are) =
      All-cons HasNames r reps (repeater_named cell r (All-head HasItsNames cell cells all) is) (repeaters_named (All-tail HasItsNames cell cells all) are)
  repeaters_named all (passed {cell} {cells} is are) = repeaters_named (All-tail HasItsNames cell cells all) are

pub are_names_of : NamesAreNames
are_names_of bytes said d =
    let r = d.says.repeaters in
    All-permutation HasNames r.found said.repeaters r.order.same (repeaters_named _ (library_named (plain bytes) d.syntax) r.are)

-- ---- words

at_least : (b : ℕ) → is_name_byte b ≡ true → 33 ≤ b
at_least b e = let f = (and_parts (nat_le 33 b) (nat_le b 126) e).0 in grind (arith, nat_tests)

is_other : (b c : ℕ) → c < 33 → 33 ≤ b → (b == c) ≡ false
is_other b c l m = grind (arith, nat_tests)

byte_solid : (b : ℕ) → is_name_byte b ≡ true → is_solid b ≡ true
byte_solid b e =
    let l = at_least b e in
    let x : (b == 32) ≡ false = is_other b 32 (omega arith) l in
    let y : (b == 9) ≡ false = is_other b 9 (omega arith) l in
    let z : (b == 10) ≡ false = is_other b 10 (omega arith) l in
    rw (x, y, z) refl

byte_ends : (b : ℕ) → is_name_byte b ≡ true → is_blank_or_return b ≡ false
byte_ends b e =
    let l = at_least b e in
    let x : (b == 32) ≡ false = is_other b 32 (omega arith) l in
    let y : (b == 9) ≡ false = is_other b 9 (omega arith) l in
    let z : (b == 13) ≡ false = is_other b 13 (omega arith) l in
    rw (x, y, z) refl

-- a name is not empty, and each of its bytes is one of a name
name_is : (name : List ℕ) → is_name name ≡ true → (0 < length name) × AllPass is_name_byte name
unfolding is_name
name_is name e =
    let (f, g) = and_parts (nat_lt 0 (length name)) (list_all is_name_byte name) e in
    (grind (arith, nat_tests), AllPass-from_list_all is_name_byte name g)

printable : (name : List ℕ) → is_name name ≡ true → IsPrintable name
printable name e =
    let n = name_is name e in record { some = n.0; solid = All-weaker (λ b. is_name_byte b ≡ true) (λ b. is_solid b ≡ true) byte_solid name n.1 }

last_byte : (name : List ℕ) → is_name name ≡ true → is_blank_or_return (slice_index name (length name - 1)) ≡ false
last_byte name e =
    let n = name_is name e in
    byte_ends (slice_index name (length name - 1)) (All-get_or (λ b. is_name_byte b ≡ true) name (length name - 1) _ (omega (arith, n.0)) n.1)

pub are_words : NamesAreWords
are_words bytes said d =
    All-weaker HasNames HasPrintableNames
    (λ r n. record { cell = printable r.cell n.cell; ends = last_byte r.cell n.cell; input = printable r.input n.input; output = printable r.output n.output })
    said.repeaters (are_names_of bytes said d)
