-- Printed numbers are words, begin no comment, and are read as values; lines of capacitors and resistors are read
-- again.
use Rattle.std.proofs.Common.{◌≡◌, ℕ, zero, suc, ◌+◌, ◌/◌, ◌%◌, ◌^◌, ◌<◌, ◌≤◌, ◌==◌, Bool, true, false, not, ◌||◌, List, [], ◌∷◌, ◌++◌, refl, ap, ◌∙◌, cond, arith, length, pos, Some, Ok}
use Rattle.std.proofs.lemmas.Bool.Decides.{nat_tests}
use Rattle.std.proofs.lemmas.List.{length-append}
use Rattle.std.proofs.lemmas.List.Elements.{All-nil, All-cons}
use Rattle.std.proofs.lemmas.List.Folds.{list_all-append}
use Rattle.std.proofs.lemmas.List.Sums.{list_all-from_AllPass, AllPass-from_list_all}
use Rattle.std.specs.Fmt.{decimal}
use Rattle.std.specs.List.{All, list_all}
use Rattle.vg_num.specs.Number.{is_digit, scaled}
use Rattle.vg_num.specs.Printed.{with_point, scaled_text}
use Rattle.vg_num.proofs.AgainLemmas.{scaled_reads}
use Rattle.vg_num.proofs.ReadingLemmas.{decimal_writes}
use Rattle.vg_scan.specs.declared.chars.Chars.{Chars}
use Rattle.vg_scan.specs.declared.name.NodeName.{NodeName}
use Rattle.vg_scan.specs.Printed.{printed, printed_byte, is_solid, IsPrintable}
use Rattle.vg_scan.specs.Separators.{is_separator}
use Rattle.vg_scan.proofs.PrintedLemmas.{solid as printed_solid}
use Rattle.spef_nodes.specs.Names.{node_in}
use Rattle.spef_net.specs.Statements.{is_colon, value_in, value_of_parts, cap_line, res_line, ground, resistor, both}
use Rattle.vg_scan.specs.Lines.{words}
use Rattle.spef_write.specs.Texts.{spaced, IsWord, IsQuiet, IsNodePrintable, printed_node, printed_node_with}
use Rattle.spef_write.specs.TextLaws.{CapsAgain, RessAgain, NumbersAgain}
use Rattle.spef_write.proofs.WordLemmas.{both_true, split_last, words_again}
use Rattle.spef_write.proofs.NodeLemmas.{node_again}
use Rattle.spef_write.proofs.QuietLemmas.{quiet_none, quiet_both, quiet_byte}

abbrev pub is_numeric : ℕ → Bool
is_numeric b = is_digit b || (b == 46)

digits_numeric : (xs : List ℕ) → list_all is_digit xs ≡ true → list_all is_numeric xs ≡ true
digits_numeric [] e = refl
digits_numeric (x ∷ xs) e =
    let (first, rest) = both_true (is_digit x) (list_all is_digit xs) e in
    rw (first, digits_numeric xs rest) refl

-- a text of digits, with or without a point
pub record IsNumber (text : List ℕ) : Type 0 where
  pub some : 0 < length text
  pub all : list_all is_numeric text ≡ true

pub decimal_number : (n : ℕ) → n < 10 ^ 64 → IsNumber (decimal n)
decimal_number n h =
    let w = decimal_writes n h in
    record { some = w.some; all = digits_numeric (decimal n) w.all }

last_numeric : (n : ℕ) → is_numeric (48 + n % 10) ≡ true
last_numeric n = glyph (n % 10) (omega arith)
  where
    glyph : (d : ℕ) → d < 10 → is_numeric (48 + d) ≡ true
    glyph d h = grind (arith, nat_tests)

more_numeric : (xs : List ℕ) (b : ℕ) → IsNumber xs → is_numeric b ≡ true → IsNumber (xs ++ b ∷ [])
more_numeric xs b is e = record {
  some = omega (arith, length-append xs (b ∷ []), is.some);
  all = list_all-append is_numeric xs (b ∷ []) ∙ rw (is.all, e) refl;
}

point_number : (n places : ℕ) → n < 10 ^ 64 → IsNumber (with_point n places)
point_number n zero h = more_numeric (decimal n) 46 (decimal_number n h) refl
point_number n (suc places) h = more_numeric (with_point (n / 10) places) (48 + n % 10) (point_number (n / 10) places (omega arith)) (last_numeric n)

pub scaled_number : (n places : ℕ) → n < 10 ^ 64 → IsNumber (scaled_text n places)
unfolding scaled_text
scaled_number n zero h = decimal_number n h
scaled_number n (suc places) h = either (n % 10 == 0) (scaled_number (n / 10) places (omega arith)) (point_number n (suc places) h)
  where
    either : (t : Bool) {x y : List ℕ} → IsNumber x → IsNumber y → IsNumber (cond t x y)
    either true a b = a
    either false a b = b

-- such a text is a word, begins no comment and has no colon
numeric_solid : (b : ℕ) → is_numeric b ≡ true → is_solid b ≡ true
numeric_solid b e = grind (arith, nat_tests)

numeric_plain : (b : ℕ) → is_numeric b ≡ true → not (is_colon b) ≡ true
numeric_plain b e = grind (arith, nat_tests)

pub all_weaker : (p q : ℕ → Bool) → ((b : ℕ) → p b ≡ true → q b ≡ true) → (xs : List ℕ) → list_all p xs ≡ true → list_all q xs ≡ true
all_weaker p q f [] e = refl
all_weaker p q f (x ∷ xs) e =
    let (first, rest) = both_true (p x) (list_all p xs) e in
    rw (f x first, all_weaker p q f xs rest) refl

pub number_word : (text : List ℕ) → IsNumber text → IsWord text
number_word text is = record { some = is.some; solid = AllPass-from_list_all is_solid text (all_weaker is_numeric is_solid numeric_solid text is.all) }

numeric_quiet : (b : ℕ) → is_numeric b ≡ true → IsQuiet (b ∷ [])
numeric_quiet b e = quiet_byte b (λ h. grind (arith, nat_tests)) (λ h. grind (arith, nat_tests)) (λ h. grind (arith, nat_tests))

pub quiet_all : (text : List ℕ) → list_all is_numeric text ≡ true → IsQuiet text
quiet_all [] e = quiet_none
quiet_all (b ∷ bs) e =
    let (first, rest) = both_true (is_numeric b) (list_all is_numeric bs) e in
    quiet_both (b ∷ []) bs (numeric_quiet b first) (quiet_all bs rest)

value_again : (n places : ℕ) → n ≤ 10 ^ 15 → value_in (pos places) (scaled_text n places) ≡ Ok n
unfolding value_in
value_again n places small =
    let text = scaled_text n places in
    ap (value_of_parts (pos places))
    (split_last is_colon text (all_weaker is_numeric (λ b. not (is_colon b)) numeric_plain text (scaled_number n places (omega arith)).all))
    ∙ (let same : places ≡ places + 0 = omega arith in
    ap (λ p. scaled (pos p) (10 ^ 15) (scaled_text n places)) same ∙ scaled_reads places n 0 n (10 ^ 15) (omega arith) (omega arith) small)

pub numbers_again : NumbersAgain
numbers_again n places small = (
  number_word (scaled_text n places) (scaled_number n places (omega arith)),
  quiet_all (scaled_text n places) (scaled_number n places (omega arith)).all,
  value_again n places small,
)

separator_solid : (d : ℕ) → is_separator d ≡ true → is_solid d ≡ true
separator_solid d e = grind (arith, nat_tests)

printed_some : (chars : Chars) (owner : List ℕ) → 0 < length owner → 0 < length (printed chars owner)
printed_some chars [] l = absurd (omega arith)
printed_some chars (b ∷ bs) l = omega (arith, byte_some, length-append (printed_byte chars b) (printed chars bs))
  where
    byte_some : 0 < length (printed_byte chars b)
    byte_some = grind (arith, nat_tests)

pub node_word : (chars : Chars) (owner leaf : List ℕ) → IsPrintable owner → list_all is_solid leaf ≡ true → IsWord (printed_node_with chars owner leaf)
node_word chars owner [] some solid = record { some = printed_some chars owner some.some; solid = printed_solid chars owner some.solid }
node_word chars owner (b ∷ leaf) some solid = record {
  some = omega (arith, length-append (printed chars owner) (chars.delimiter ∷ printed chars (b ∷ leaf)));
  solid =
      AllPass-from_list_all is_solid (printed chars owner ++ chars.delimiter ∷ printed chars (b ∷ leaf))
      (list_all-append is_solid (printed chars owner) (chars.delimiter ∷ printed chars (b ∷ leaf))
      ∙ rw (
        list_all-from_AllPass is_solid (printed chars owner) (printed_solid chars owner some.solid),
        separator_solid chars.delimiter chars.delimits,
        list_all-from_AllPass is_solid (printed chars (b ∷ leaf)) (printed_solid chars (b ∷ leaf) (AllPass-from_list_all is_solid (b ∷ leaf) solid)),
      ) refl);
}

pub printed_word : (chars : Chars) (node : NodeName) → IsNodePrintable node → IsWord (printed_node chars node)
printed_word chars node printable = node_word chars node.owner node.leaf printable.owner (list_all-from_AllPass is_solid node.leaf printable.leaf)

-- THE LINES
-- the words of such lines
pub cap_all : (chars : Chars) (id v places : ℕ) (node : NodeName) → IsNodePrintable node → id < 10 ^ 64 → v ≤ 10 ^ 15
    → All IsWord (decimal id ∷ printed_node chars node ∷ scaled_text v places ∷ [])
cap_all chars id v places node printable id_few small =
    All-cons IsWord (decimal id) (printed_node chars node ∷ scaled_text v places ∷ []) (number_word (decimal id) (decimal_number id id_few))
    (All-cons IsWord (printed_node chars node) (scaled_text v places ∷ []) (printed_word chars node printable)
    (All-cons IsWord (scaled_text v places) [] (numbers_again v places small).0 (All-nil IsWord)))

pub cap_words : (chars : Chars) (id v places : ℕ) (node : NodeName) → IsNodePrintable node → id < 10 ^ 64 → v ≤ 10 ^ 15
    → words (spaced (decimal id ∷ printed_node chars node ∷ scaled_text v places ∷ [])) ≡ decimal id ∷ printed_node chars node ∷ scaled_text v places ∷ []
cap_words chars id v places node printable id_few small =
    words_again (decimal id ∷ printed_node chars node ∷ scaled_text v places ∷ []) (cap_all chars id v places node printable id_few small)

pub res_all : (chars : Chars) (id v places : ℕ) (a b : NodeName) → IsNodePrintable a → IsNodePrintable b → id < 10 ^ 64 → v ≤ 10 ^ 15
    → All IsWord (decimal id ∷ printed_node chars a ∷ printed_node chars b ∷ scaled_text v places ∷ [])
res_all chars id v places a b a_printable b_printable id_few small =
    All-cons IsWord (decimal id) (printed_node chars a ∷ printed_node chars b ∷ scaled_text v places ∷ [])
    (number_word (decimal id) (decimal_number id id_few))
    (All-cons IsWord (printed_node chars a) (printed_node chars b ∷ scaled_text v places ∷ []) (printed_word chars a a_printable)
    (All-cons IsWord (printed_node chars b) (scaled_text v places ∷ []) (printed_word chars b b_printable)
    (All-cons IsWord (scaled_text v places) [] (numbers_again v places small).0 (All-nil IsWord))))

pub res_words : (chars : Chars) (id v places : ℕ) (a b : NodeName) → IsNodePrintable a → IsNodePrintable b → id < 10 ^ 64 → v ≤ 10 ^ 15
    → words (spaced (decimal id ∷ printed_node chars a ∷ printed_node chars b ∷ scaled_text v places ∷ []))
    ≡ decimal id ∷ printed_node chars a ∷ printed_node chars b ∷ scaled_text v places ∷ []
res_words chars id v places a b a_printable b_printable id_few small =
    words_again (decimal id ∷ printed_node chars a ∷ printed_node chars b ∷ scaled_text v places ∷ [])
    (res_all chars id v places a b a_printable b_printable id_few small)

pub caps_again : CapsAgain
unfolding cap_line
caps_again file id v places node printable id_few small at =
    ap (cap_line file) (cap_words file.chars id v places node printable id_few small)
    ∙ ap (λ o. ground o (value_in file.c_places (scaled_text v places))) (node_again file node.owner node.leaf printable.owner.some)
    ∙ ap (λ p. ground (Some node) (value_in p (scaled_text v places))) at
    ∙ ap (ground (Some node)) (value_again v places small)

pub ress_again : RessAgain
unfolding res_line
ress_again file id v places a b a_printable b_printable id_few small at =
    ap (res_line file) (res_words file.chars id v places a b a_printable b_printable id_few small)
    ∙ ap (λ o. resistor (both o (node_in file (printed_node file.chars b))) (value_in file.r_places (scaled_text v places)))
    (node_again file a.owner a.leaf a_printable.owner.some)
    ∙ ap (λ o. resistor (both (Some a) o) (value_in file.r_places (scaled_text v places))) (node_again file b.owner b.leaf b_printable.owner.some)
    ∙ ap (λ p. resistor (both (Some a) (Some b)) (value_in p (scaled_text v places))) at
    ∙ ap (resistor (both (Some a) (Some b))) (value_again v places small)
