-- The rows of a text are widths.
use Rattle.std.proofs.Common.{◌≡◌, ℕ, ◌≤◌, ◌==◌, ◌&&◌, nat_le, nat_lt, not, Bool, true, false, List, [], ◌∷◌, map, length, get_or, refl, sym, ap, ◌∙◌, subst, arith, leb-true, eqb-true, Option, Some, None, inl, inr, Result, Ok, Err, if◌then◌else◌}
use Rattle.std.proofs.lemmas.Bool.{and_parts, cases_lt}
use Rattle.std.proofs.lemmas.List.{length-map}
use Rattle.std.proofs.lemmas.List.Elements.{All-nil, All-cons}
use Rattle.std.specs.List.{All}
use Rattle.std.specs.Str.{bytes_eq}
use Rattle.vg_num.specs.Number.{are_digits, value_of}
use Rattle.vg_scan.specs.Lines.{Line}
use Rattle.vg_width.specs.declared.fault.WidthKind.{WidthKind}
use Rattle.vg_width.specs.declared.fault.WidthKind.TheVariants.{Word, Number, First, TooMany}
use Rattle.vg_width.specs.Lines.{number_in, width_with, width_of}
use Rattle.vg_width.specs.Texts.{is_plain, fault_after, AreLinesOf}
use Rattle.vg_width.proofs.TextLemmas.{some_place}
use Rattle.wire_widths.specs.Widths.{IsWidth, AreWidths, plain}
use Rattle.wire_widths.specs.declared.width.Width.{Width}

some_if : (b : Bool) (v n : ℕ) → (if b then Some v else None) ≡ Some n → (b ≡ true) × (v ≡ n)
some_if true v n e = (refl, cc)
some_if false v n e = absurd (cc)

number_small : (digits most : ℕ) (word : List ℕ) (n : ℕ) → number_in digits most word ≡ Some n → n ≤ most
number_small digits most word n e =
    let (all, is) = some_if (nat_le (length word) digits && (are_digits word && nat_le (value_of word) most)) (value_of word) n e in
    let (_, rest) = and_parts (nat_le (length word) digits) (are_digits word && nat_le (value_of word) most) all in
    let (_, low) = and_parts (are_digits word) (nat_le (value_of word) most) rest in
    omega (arith, leb-true (value_of word) most low, is)

ok_if : {A : Type 0} (b : Bool) (r : Result A WidthKind) (kind : WidthKind) (x : A) → (if b then r else Err kind) ≡ Ok x → (b ≡ true) × (r ≡ Ok x)
ok_if true r kind x e = (refl, e)
ok_if false r kind x e = absurd (cc)

width_small : (num den add : Option ℕ) (w : Width) → ((n : ℕ) → den ≡ Some n → n ≤ 1000) → ((n : ℕ) → add ≡ Some n → n ≤ 1000000)
    → width_with num den add ≡ Ok w → IsWidth w
width_small None den add w d a e = absurd (cc)
width_small (Some num) None add w d a e = absurd (cc)
width_small (Some num) (Some den) None w d a e = absurd (cc)
width_small (Some num) (Some den) (Some add) w d a e =
    let (order, ok) = ok_if (nat_le 1 num && nat_le num den) (Ok (record { num = num; den = den; add = add })) Number w e in
    let (some, less) = and_parts (nat_le 1 num) (nat_le num den) order in
    let is : record { num = num; den = den; add = add } ≡ w = cc in
    subst IsWidth is (record { some = leb-true 1 num some; less = leb-true num den less; den = d den refl; add = a add refl })

-- a line states a width within its limits
states_width : (line : Line) (w : Width) → width_of line ≡ Ok w → IsWidth w
unfolding width_of
states_width [] w e = absurd (cc)
states_width (name ∷ []) w e = absurd (cc)
states_width (name ∷ num ∷ []) w e = absurd (cc)
states_width (name ∷ num ∷ den ∷ []) w e = absurd (cc)
states_width (name ∷ num ∷ den ∷ add ∷ []) w e =
    width_small (number_in 4 1000 num) (number_in 4 1000 den) (number_in 7 1000000 add) w (number_small 4 1000 den) (number_small 7 1000000 add)
    (ok_if (bytes_eq name _) _ Word w e).1
states_width (name ∷ num ∷ den ∷ add ∷ more ∷ words) w e = absurd (cc)

each_width : (ls : List Line) (ws : List Width) → map width_of ls ≡ map Ok ws → All IsWidth ws
each_width ls [] e = All-nil IsWidth
each_width [] (w ∷ ws) e = absurd (cc)
each_width (l ∷ ls) (w ∷ ws) e =
    let states : width_of l ≡ Ok w = cc in
    let others : map width_of ls ≡ map Ok ws = cc in
    All-cons IsWidth w ws (states_width l w states) (each_width ls ws others)

-- the first is plain
not_first : (b : Bool) (o : Option WidthKind) → (if b then Some First else o) ≡ None → b ≡ false
not_first true o e = absurd (cc)
not_first false o e = refl

not_not : (b : Bool) → not b ≡ false → b ≡ true
not_not true e = refl
not_not false e = absurd (cc)

first_plain : (w : Width) → fault_after 0 (Ok w) ≡ None → w ≡ plain
first_plain w e =
    let is = not_not (is_plain w) (not_first (not (is_plain w)) (if nat_lt 7 0 then Some TooMany else None) e) in
    let (num, rest) = and_parts (w.num == 1) ((w.den == 1) && (w.add == 0)) is in
    let (den, add) = and_parts (w.den == 1) (w.add == 0) rest in
    λ i. record { num = eqb-true w.num 1 num i; den = eqb-true w.den 1 den i; add = eqb-true w.add 0 add i }

-- the ninth has no place
no_ninth : (i : ℕ) (r : Result Width WidthKind) → fault_after i r ≡ None → i ≤ 7
no_ninth i (Ok w) e = some_place i w e
no_ninth i (Err kind) e = absurd (cc)

pub are_widths : (lines : List Line) (rows : List Width) → AreLinesOf lines rows → AreWidths rows
are_widths [] rows a = let e = a.whole in absurd (cc)
are_widths (h ∷ []) rows a = let e = a.whole in absurd (cc)
are_widths (h ∷ l ∷ ls) [] a = let e = a.widths in absurd (cc)
are_widths (h ∷ l ∷ ls) (w ∷ ws) a =
    let e = a.widths in
    let states : width_of l ≡ Ok w = cc in
    let count : length ls ≡ length ws = omega (arith, ap length e, length-map ls width_of, length-map {B = Result Width WidthKind} ws Ok) in
    record {
      some = omega arith;
      few = elim (cases_lt 9 (length (h ∷ l ∷ ls))) [
        | inl many ↦ absurd (omega (arith, no_ninth 8 (width_of (get_or (h ∷ l ∷ ls) 9 [])) (a.clear 9 many)))
        | inr few ↦ omega (arith, count, few)
      ];
      first = first_plain w (ap (fault_after 0) (sym states) ∙ a.clear 1 (omega arith));
      each = each_width (l ∷ ls) (w ∷ ws) e;
    }
