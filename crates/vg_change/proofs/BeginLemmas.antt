-- Whether names begin with a prefix.
use Rattle.std.proofs.Common.{◌≡◌, ◌≢◌, ◌==◌, ℕ, ◌+◌, ◌^◌, ◌<◌, ◌≤◌, ◌/◌, ◌%◌, ◌&&◌, ◌||◌, Bool, true, false, List, [], ◌∷◌, ◌++◌, length, take, drop, Option, None, Some, refl, sym, ap, ◌∙◌, arith, inl, inr}
use Rattle.std.specs.Fmt.{decimal}
use Rattle.std.specs.Cmp.Lexicographic.{pointwise}
use Rattle.std.specs.Str.{bytes_eq}
use Rattle.std.proofs.lemmas.Bool.{cases_lt, eq-eqb, ne_eqb, true≢false}
use Rattle.std.proofs.lemmas.Bool.Decides.{nat_tests}
use Rattle.std.proofs.lemmas.Fmt.{decimal_digit, decimal_step}
use Rattle.std.proofs.lemmas.List.{append_assoc, same_from_push, take-append-drop}
use Rattle.std.proofs.lemmas.Slice.Eq.{bytes_eq-Decides}
use Rattle.std.specs.List.{slice_get}
use Rattle.ver_module.specs.Netlists.{Net, net_name}
use Rattle.ver_module.specs.Runs.{IsRun}
use Rattle.vg_change.specs.Named.{begins}

-- a name and one more byte begin with what the name begins with, and with the whole
pub begins_push : (name : List ℕ) (last : ℕ) (prefix : List ℕ) → begins (name ++ last ∷ []) prefix ≡ (bytes_eq prefix (name ++ last ∷ []) || begins name prefix)
begins_push [] last [] = refl
begins_push (x ∷ xs) last [] = refl
begins_push [] last (c ∷ []) = grind (arith, nat_tests)
begins_push [] last (c ∷ (e ∷ rest)) = grind (arith, nat_tests)
begins_push (x ∷ xs) last (c ∷ prefix) = either (c == x) (begins_push xs last prefix)
  where
    either : (same : Bool) → begins (xs ++ last ∷ []) prefix ≡ (bytes_eq prefix (xs ++ last ∷ []) || begins xs prefix)
        → (same && begins (xs ++ last ∷ []) prefix) ≡ ((same && bytes_eq prefix (xs ++ last ∷ [])) || (same && begins xs prefix))
    either true e = e
    either false e = refl

-- behind the same front
pub begins_behind : (front name prefix : List ℕ) → begins (front ++ name) (front ++ prefix) ≡ begins name prefix
begins_behind [] name prefix = refl
begins_behind (x ∷ front) name prefix = both (x == x) (eq-eqb x x refl) (begins_behind front name prefix)
  where
    both : (same : Bool) → same ≡ true → begins (front ++ name) (front ++ prefix) ≡ begins name prefix → (same && begins (front ++ name) (front ++ prefix)) ≡ begins name prefix
    both true t e = e
    both false t e = absurd (cc)

-- a name that begins with a prefix does so with more behind it
pub begins_more : (name more prefix : List ℕ) → begins name prefix ≡ true → begins (name ++ more) prefix ≡ true
begins_more name more [] e = refl
begins_more [] more (c ∷ prefix) e = absurd (cc)
begins_more (x ∷ name) more (c ∷ prefix) e = both (c == x) (begins_more name more prefix) e
  where
    both : (same : Bool) → (begins name prefix ≡ true → begins (name ++ more) prefix ≡ true) → (same && begins name prefix) ≡ true → (same && begins (name ++ more) prefix) ≡ true
    both true f e = f e
    both false f e = e

-- neither of two names goes on with the other, so nothing behind the first begins with the second
pub begins_never : (base more prefix : List ℕ) → begins base prefix ≡ false → pointwise ◌==◌ (take (length base) prefix) base ≡ false → begins (base ++ more) prefix ≡ false
begins_never [] more prefix apart other = absurd (cc)
begins_never (x ∷ base) more [] apart other = absurd (cc)
begins_never (x ∷ base) more (c ∷ prefix) apart other = both (c == x) (begins_never base more prefix) apart other
  where
    both : (same : Bool) → (begins base prefix ≡ false → pointwise ◌==◌ (take (length base) prefix) base ≡ false → begins (base ++ more) prefix ≡ false)
        → (same && begins base prefix) ≡ false → (same && pointwise ◌==◌ (take (length base) prefix) base) ≡ false → (same && begins (base ++ more) prefix) ≡ false
    both true f a b = f a b
    both false f a b = refl

-- ---- the digits of a number

same_answer : (x y : Bool) → (x ≡ true → y ≡ true) → (y ≡ true → x ≡ true) → x ≡ y
same_answer true true f g = refl
same_answer true false f g = sym (f refl)
same_answer false true f g = g refl
same_answer false false f g = refl

eq_push : (xs ys : List ℕ) (x : ℕ) → bytes_eq (xs ++ x ∷ []) (ys ++ x ∷ []) ≡ bytes_eq xs ys
eq_push xs ys x =
    same_answer _ _
    (λ t. (bytes_eq-Decides xs ys).1 (same_from_push xs ys x x ((bytes_eq-Decides (xs ++ x ∷ []) (ys ++ x ∷ [])).0 t)).0)
    (λ t. (bytes_eq-Decides (xs ++ x ∷ []) (ys ++ x ∷ [])).1 (ap (λ zs. zs ++ x ∷ []) ((bytes_eq-Decides xs ys).0 t)))

apart_push : (xs ys : List ℕ) (x y : ℕ) → x ≢ y → bytes_eq (xs ++ x ∷ []) (ys ++ y ∷ []) ≡ false
apart_push xs ys x y apart =
    same_answer _ false
    (λ t. absurd (apart (same_from_push xs ys x y ((bytes_eq-Decides (xs ++ x ∷ []) (ys ++ y ∷ [])).0 t)).1))
    (λ t. absurd (cc))

-- the digits of a number end with its last one
digits_end : (n : ℕ) → n < 2 ^ 32 → (front : List ℕ) × (decimal n ≡ front ++ (48 + n % 10) ∷ [])
digits_end n low = elim (cases_lt n 10) [
  | inl one ↦ ([], decimal_digit n one ∙ ap (λ d. (48 + d) ∷ []) (omega arith))
  | inr more ↦ (decimal (n / 10), decimal_step n more (omega arith))
]

-- and are some
pub no_digits : (n : ℕ) → n < 2 ^ 32 → (digits : List ℕ) → length digits ≡ 0 → false ≡ bytes_eq digits (decimal n)
no_digits n low [] empty = let (front, is) = digits_end n low in none front is
  where
    none : (front : List ℕ) → decimal n ≡ front ++ (48 + n % 10) ∷ [] → false ≡ bytes_eq [] (decimal n)
    none [] is = sym (ap (bytes_eq []) is)
    none (x ∷ front) is = sym (ap (bytes_eq []) is)
no_digits n low (x ∷ digits) empty = absurd (omega (arith, empty))

pub other_end : (n : ℕ) → n < 2 ^ 32 → (digits front : List ℕ) (last : ℕ) → digits ≡ front ++ last ∷ [] → last ≢ 48 + n % 10 → false ≡ bytes_eq digits (decimal n)
other_end n low digits front last cut apart =
    let (rest, is) = digits_end n low in
    sym ((λ i. bytes_eq (cut i) (is i)) ∙ apart_push front rest last (48 + n % 10) apart)

pub one_digit : (n : ℕ) → n < 10 → (digits front : List ℕ) (last : ℕ) → digits ≡ front ++ last ∷ [] → last ≡ 48 + n % 10 → bytes_eq front [] ≡ bytes_eq digits (decimal n)
one_digit n low digits front last cut same =
    sym ((λ i. bytes_eq (cut i) ((decimal_digit n low ∙ ap (λ d. d ∷ []) (let e : 48 + n ≡ last = omega (arith, same) in e)) i)) ∙ eq_push front [] last)

pub more_digits : (n : ℕ) → 10 ≤ n → n < 2 ^ 32 → (digits front : List ℕ) (last : ℕ) → digits ≡ front ++ last ∷ [] → last ≡ 48 + n % 10
    → bytes_eq front (decimal (n / 10)) ≡ bytes_eq digits (decimal n)
more_digits n high low digits front last cut same =
    sym ((λ i. bytes_eq (cut i) ((decimal_step n high (omega arith) ∙ ap (λ d. decimal (n / 10) ++ d ∷ []) (sym same)) i)) ∙ eq_push front (decimal (n / 10)) last)

pub empty_is : (xs : List ℕ) → (length xs == 0) ≡ bytes_eq xs []
empty_is [] = refl
empty_is (x ∷ xs) = ne_eqb (length (x ∷ xs)) 0 (λ e. omega (arith, e))

pub some_there : (xs : List ℕ) → (length xs == 0) ≡ false → 0 < length xs
some_there [] e = absurd (cc)
some_there (x ∷ xs) e = omega arith

-- ---- what the digits of a number begin with

pub begins_whole : (name prefix : List ℕ) → bytes_eq prefix name ≡ true → begins name prefix ≡ true
begins_whole name prefix same = ap (λ p. begins name p) ((bytes_eq-Decides prefix name).0 same) ∙ whole name
  where
    whole : (xs : List ℕ) → begins xs xs ≡ true
    whole [] = refl
    whole (x ∷ xs) = ap (λ b. b && begins xs xs) (eq-eqb x x refl) ∙ whole xs

nothing_begins : (prefix : List ℕ) → 0 < length prefix → begins [] prefix ≡ false
nothing_begins [] some = absurd (omega (arith, some))
nothing_begins (c ∷ prefix) some = refl

pub begins_one : (n : ℕ) → n < 10 → (prefix : List ℕ) → 0 < length prefix → bytes_eq prefix (decimal n) ≡ false → false ≡ begins (decimal n) prefix
begins_one n low prefix some apart =
    let is = decimal_digit n low in
    sym (ap (λ ds. begins ds prefix) is ∙ begins_push [] (48 + n) prefix
    ∙ (λ i. (ap (bytes_eq prefix) (sym is) ∙ apart) i || nothing_begins prefix some i))

pub begins_step : (n : ℕ) → 10 ≤ n → n < 2 ^ 32 → (prefix : List ℕ) → bytes_eq prefix (decimal n) ≡ false → begins (decimal (n / 10)) prefix ≡ begins (decimal n) prefix
begins_step n high low prefix apart =
    let is = decimal_step n high (omega arith) in
    sym (ap (λ ds. begins ds prefix) is ∙ begins_push (decimal (n / 10)) (48 + n % 10) prefix
    ∙ ap (λ b. b || begins (decimal (n / 10)) prefix) (ap (bytes_eq prefix) (sym is) ∙ apart))

-- ---- the names of bits

-- the name of a bit that is not the prefix begins with it where it does so without its last byte
pub begins_bit : (base digits prefix : List ℕ) → bytes_eq (base ++ 91 ∷ digits ++ 93 ∷ []) prefix ≡ false
    → begins (base ++ 91 ∷ digits) prefix ≡ begins (base ++ 91 ∷ digits ++ 93 ∷ []) prefix
begins_bit base digits prefix apart =
    sym (begins_push (base ++ 91 ∷ digits) 93 prefix
    ∙ ap (λ b. b || begins (base ++ 91 ∷ digits) prefix) (same_answer (bytes_eq prefix (base ++ 91 ∷ digits ++ 93 ∷ [])) false
    (λ t. sym apart ∙ (bytes_eq-Decides (base ++ 91 ∷ digits ++ 93 ∷ []) prefix).1 (sym ((bytes_eq-Decides prefix (base ++ 91 ∷ digits ++ 93 ∷ [])).0 t))) (λ t. absurd (cc))))

-- the name of a net begins with what its identifier's does
pub name_more : (base : List ℕ) (bit : Option ℕ) (prefix : List ℕ) → begins base prefix ≡ true → begins (net_name base bit) prefix ≡ true
name_more base None prefix e = e
name_more base (Some bit) prefix e = begins_more (base ++ 91 ∷ decimal bit) (93 ∷ []) prefix (begins_more base (91 ∷ decimal bit) prefix e)

-- where the prefix goes on behind the identifier's name
pub name_behind : (base : List ℕ) (bit : ℕ) (prefix rest : List ℕ) → prefix ≡ base ++ rest → bytes_eq (net_name base (Some bit)) prefix ≡ false
    → begins (91 ∷ decimal bit) rest ≡ begins (net_name base (Some bit)) prefix
name_behind base bit prefix rest is apart =
    sym (begins_behind base (91 ∷ decimal bit) rest) ∙ ap (λ p. begins (base ++ 91 ∷ decimal bit) p) (sym is) ∙ begins_bit base (decimal bit) prefix apart

-- where neither goes on with the other
pub name_never : (base : List ℕ) (bit : Option ℕ) (prefix : List ℕ) → begins base prefix ≡ false → pointwise ◌==◌ (take (length base) prefix) base ≡ false → begins (net_name base bit) prefix ≡ false
name_never base None prefix apart other = apart
name_never base (Some bit) prefix apart other =
    ap (λ name. begins name prefix) (append_assoc base (91 ∷ decimal bit) (93 ∷ [])) ∙ begins_never base (91 ∷ decimal bit ++ 93 ∷ []) prefix apart other

-- what is behind the base
pub cut_is : (prefix base rest : List ℕ) → pointwise ◌==◌ (take (length base) prefix) base ≡ true → rest ≡ drop (length base) prefix → prefix ≡ base ++ rest
cut_is prefix base rest same is =
    sym (take-append-drop (length base) prefix) ∙ (λ i. (bytes_eq-Decides (take (length base) prefix) base).0 same i ++ sym is i)

-- ---- names of one identifier

turned : (a b : ℕ) → (a == b) ≡ true → (b == a) ≡ true
turned a b t = grind (arith, nat_tests, t)

-- where the prefix does not begin with the identifier's name
pub goes_on_never : (base prefix : List ℕ) → pointwise ◌==◌ (take (length base) prefix) base ≡ false → begins prefix (base ++ 91 ∷ []) ≡ false
goes_on_never [] prefix other = absurd (cc)
goes_on_never (x ∷ base) [] other = refl
goes_on_never (x ∷ base) (c ∷ prefix) other = both (c == x) (x == c) (turned x c) (goes_on_never base prefix) other
  where
    both : (a b : Bool) → (b ≡ true → a ≡ true) → (pointwise ◌==◌ (take (length base) prefix) base ≡ false → begins prefix (base ++ 91 ∷ []) ≡ false)
        → (a && pointwise ◌==◌ (take (length base) prefix) base) ≡ false → (b && begins prefix (base ++ 91 ∷ [])) ≡ false
    both true true same f e = f e
    both false true same f e = absurd (let h : false ≡ true = same refl in cc)
    both a false same f e = refl

-- where it does
pub goes_on_behind : (base prefix rest : List ℕ) → prefix ≡ base ++ rest → begins rest (91 ∷ []) ≡ begins prefix (base ++ 91 ∷ [])
goes_on_behind base prefix rest is = sym (ap (λ p. begins p (base ++ 91 ∷ [])) is ∙ begins_behind base rest (91 ∷ []))

-- where it goes on, if at all, as no name of a bit does
never_behind : (base more prefix : List ℕ) → begins base prefix ≡ false → begins prefix (base ++ 91 ∷ []) ≡ false → begins (base ++ 91 ∷ more) prefix ≡ false
never_behind [] more [] apart never = absurd (cc)
never_behind [] more (c ∷ prefix) apart never =
    ap (λ b. b && begins more prefix) (ne_eqb c 91 (λ e. true≢false (sym (ap (λ f. begins (f ∷ prefix) (91 ∷ [])) e) ∙ never)))
never_behind (x ∷ base) more [] apart never = absurd (cc)
never_behind (x ∷ base) more (c ∷ prefix) apart never = both (c == x) (x == c) (turned c x) (never_behind base more prefix) apart never
  where
    both : (a b : Bool) → (a ≡ true → b ≡ true)
        → (begins base prefix ≡ false → begins prefix (base ++ 91 ∷ []) ≡ false → begins (base ++ 91 ∷ more) prefix ≡ false)
        → (a && begins base prefix) ≡ false → (b && begins prefix (base ++ 91 ∷ [])) ≡ false → (a && begins (base ++ 91 ∷ more) prefix) ≡ false
    both true true same f p q = f p q
    both true false same f p q = absurd (let h : false ≡ true = same refl in cc)
    both false b same f p q = refl

-- then no net of the identifier begins with it where one does not
name_alike : (base : List ℕ) (bit other : Option ℕ) (prefix : List ℕ) → begins (net_name base bit) prefix ≡ false → begins prefix (base ++ 91 ∷ []) ≡ false
    → begins (net_name base other) prefix ≡ false
name_alike base bit other prefix apart never = by_bit other
  where
    base_apart : begins base prefix ≡ false
    base_apart = same_answer (begins base prefix) false (λ t. sym apart ∙ name_more base bit prefix t) (λ t. absurd (cc))

    by_bit : (other : Option ℕ) → begins (net_name base other) prefix ≡ false
    by_bit None = base_apart
    by_bit (Some b) =
        ap (λ name. begins name prefix) (append_assoc base (91 ∷ decimal b) (93 ∷ [])) ∙ never_behind base (decimal b ++ 93 ∷ []) prefix base_apart never

-- so of a run of nets none does where the first does not
pub run_apart : (nets : List Net) (from to : ℕ) (first : Net) (prefix : List ℕ) → IsRun nets from to → slice_get nets from ≡ Some first
    → begins first.name prefix ≡ false → begins prefix (first.base ++ 91 ∷ []) ≡ false
    → (n : ℕ) (net : Net) → from ≤ n → n < to → slice_get nets n ≡ Some net → begins net.name prefix ≡ false
run_apart nets from to first prefix run at apart never n net low high is =
    let base : net.base ≡ first.base = (run.same n first net low high at is).0 in
    ap (λ name. begins name prefix) (run.named n net low high is ∙ ap (λ b. net_name b net.bit) base)
    ∙ name_alike first.base first.bit net.bit prefix
    (sym (ap (λ name. begins name prefix) (run.named from first (omega arith) run.some at)) ∙ apart) never
