-- What is printed is read again.
use Rattle.std.proofs.Common.{◌≡◌, ℕ, suc, ◌+◌, ◌/◌, ◌%◌, ◌^◌, ◌<◌, ◌≤◌, ◌==◌, Ok, Bool, true, false, nat_lt, List, [], ◌∷◌, ◌++◌, length, arith, refl, sym, ap, ◌∙◌, length-append, ℤ, pos, negsuc}
use Rattle.std.specs.Prelude.{unsigned_abs}
use Rattle.std.specs.Fmt.{decimal, signed_decimal}
use Rattle.std.proofs.lemmas.List.{append-nil}
use Rattle.std.specs.List.{list_all}
use Rattle.std.specs.Str.Parse.{starts_with_minus, without_leading_sign}
use Rattle.std.proofs.lemmas.Bool.{and_parts}
use Rattle.std.proofs.lemmas.Bool.Decides.{nat_tests}
use Rattle.std.proofs.lemmas.Fmt.{decimal_by_steps_wide}
use Rattle.std.proofs.lemmas.List.Folds.{list_all-append}
use Rattle.vg_num.specs.Number.{is_digit, is_e, value_of, are_digits, with_sign, without_minus, whole_of}
use Rattle.vg_num.proofs.CapLemmas.{value_after-append, digit-le}
use Rattle.vg_num.proofs.NearestLemmas.{whole_ok}

-- digits, at least one, that write n
pub record Writes (ds : List ℕ) (n : ℕ) : Type 0 where
  pub some : 0 < length ds
  pub all : list_all is_digit ds ≡ true
  pub value : value_of ds ≡ n

glyph : (d : ℕ) → d < 10 → is_digit (48 + d) ≡ true
glyph d h = grind (arith, nat_tests)

one_digit : (n : ℕ) → n < 10 → Writes ((48 + n) ∷ []) n
one_digit n h = record {
  some = omega arith;
  all = rw (glyph n h) refl;
  value = omega arith;
}

pub one_more : (n : ℕ) (ds : List ℕ) → list_all is_digit ds ≡ true → value_of ds ≡ n / 10 → (list_all is_digit (ds ++ (48 + n % 10) ∷ []) ≡ true) × (value_of (ds ++ (48 + n % 10) ∷ []) ≡ n)
one_more n ds all value =
    let g : is_digit (48 + n % 10) ≡ true = glyph (n % 10) (omega arith) in
    let v = value_after-append ds ((48 + n % 10) ∷ []) 0 in (
      rw (list_all-append is_digit ds ((48 + n % 10) ∷ [])) (rw all (rw g refl)),
      v ∙ (rw value (omega arith)),
    )

longer : (n : ℕ) (ds : List ℕ) → 10 ≤ n → Writes ds (n / 10) → Writes (ds ++ (48 + n % 10) ∷ []) n
longer n ds h w =
    let (all, value) = one_more n ds w.all w.value in
    record {
      some = omega (arith, length-append ds ((48 + n % 10) ∷ []), w.some);
      all = all;
      value = value;
    }

pub decimal_writes : (n : ℕ) → n < 10 ^ 64 → Writes (decimal n) n
decimal_writes n h = decimal_by_steps_wide (λ m ds. Writes ds m) one_digit (λ m ds k w. longer m ds k w) n h

pub are_some : (ds : List ℕ) → 0 < length ds → list_all is_digit ds ≡ true → are_digits ds ≡ true
are_some ds h e = let t : nat_lt 0 (length ds) ≡ true = grind (arith, nat_tests) in rw t (rw e refl)

pub no_sign : (b c : ℕ) → is_digit b ≡ true → c < 48 → (b == c) ≡ false
no_sign b c e h = let k = digit-le b e in grind (arith, nat_tests)

pub no_letter : (b : ℕ) → is_digit b ≡ true → is_e b ≡ false
no_letter b e = let k = digit-le b e in grind (arith, nat_tests)

pub unsigned_text : (front rest : List ℕ) → 0 < length front → list_all is_digit front ≡ true → (starts_with_minus (front ++ rest) ≡ false) × (without_leading_sign (front ++ rest) ≡ front ++ rest)
unsigned_text [] rest h e = absurd (omega arith)
unsigned_text (b ∷ bs) rest h e =
    let d = (and_parts (is_digit b) (list_all is_digit bs) e).0 in
    let minus : (b == 45) ≡ false = no_sign b 45 d (omega arith) in
    let plus : (b == 43) ≡ false = no_sign b 43 d (omega arith) in
    (minus, rw minus (rw plus refl))

whole_text : (minus : Bool) (text ds : List ℕ) (n : ℕ) → starts_with_minus text ≡ minus → without_minus text ≡ ds → Writes ds n → n ≤ 10 ^ 26 → whole_of text ≡ Ok (with_sign minus n)
whole_text minus text ds n e f w l =
    sym (whole_ok text n (ap are_digits f ∙ are_some ds w.some w.all) (sym (ap value_of f ∙ w.value)) l)
    ∙ ap (λ b. Ok (with_sign b n)) e

-- a printed number is read as that number
pub whole_reads : (n : ℤ) → unsigned_abs n ≤ 10 ^ 26 → whole_of (signed_decimal n) ≡ Ok n
whole_reads (pos n) l =
    let w = decimal_writes n (omega arith) in
    let m : starts_with_minus (decimal n) ≡ false = (rw append-nil at (unsigned_text (decimal n) [] w.some w.all)).0 in
    whole_text false (decimal n) (decimal n) n m (rw m refl) w l
whole_reads (negsuc n) l = whole_text true (45 ∷ decimal (suc n)) (decimal (suc n)) (suc n) refl refl (decimal_writes (suc n) (omega arith)) l
