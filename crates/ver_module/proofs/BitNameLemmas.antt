-- The names of bits.
use Rattle.std.proofs.Common.{◌≡◌, ◌≢◌, ℕ, suc, ◌+◌, ◌-◌, ◌^◌, ◌<◌, ◌≤◌, Bool, false, true, List, [], ◌∷◌, ◌++◌, length, take, drop, get_or, Some, Ok, pos, refl, sym, ap, ◌∙◌, arith, length-append}
use Rattle.std.specs.Fmt.{decimal}
use Rattle.std.specs.List.{list_all}
use Rattle.std.specs.Str.{bytes_eq}
use Rattle.std.proofs.Math.Seq.{drop-cons, get_or-append_seam, take-append_seam, take-length}
use Rattle.std.proofs.lemmas.List.{length-drop, get_or-drop, take-append-drop}
use Rattle.std.proofs.lemmas.List.Folds.{list_all_at}
use Rattle.std.proofs.lemmas.Bool.Decides.{nat_tests}
use Rattle.std.proofs.lemmas.Slice.Eq.{bytes_eq-Decides}
use Rattle.memchr.specs.Find.{is_byte}
use Rattle.vg_num.specs.Number.{is_digit, scaled, value_of}
use Rattle.vg_num.specs.Printed.{scaled_text}
use Rattle.vg_num.proofs.ReadingLemmas.{decimal_writes}
use Rattle.ver_module.specs.Netlists.{net_name}

pub but_last : {X : Type 0} (xs : List X) (x : X) → take (length (xs ++ x ∷ []) - 1) (xs ++ x ∷ []) ≡ xs
but_last xs x =
    ap (λ n. take n (xs ++ x ∷ [])) (let e : length (xs ++ x ∷ []) - 1 ≡ length xs = omega (arith, length-append xs (x ∷ [])) in e)
    ∙ take-append_seam xs (x ∷ [])

-- no `[` is among these
abbrev pub NoOpen : List ℕ → Type 0
NoOpen ds = (i : ℕ) → i < length ds → get_or ds i 0 ≢ 91

pub no_open : (n : ℕ) → n < 2 ^ 32 → NoOpen (decimal n)
no_open n h i l e =
    let w = decimal_writes n (omega arith) in
    let f : is_digit (get_or (decimal n) i 0) ≡ false = ap is_digit e in
    let g : list_all is_digit (decimal n) ≡ false = list_all_at is_digit (decimal n) i 0 l f in
    let t : list_all is_digit (decimal n) ≡ true = w.all in
    absurd (cc)

-- a text is cut in one way at its last `[`
pub one_cut : (xs ds ys es : List ℕ) → NoOpen ds → NoOpen es → xs ++ 91 ∷ ds ≡ ys ++ 91 ∷ es → (xs ≡ ys) × (ds ≡ es)
one_cut [] ds [] es a b e = (refl, cc)
one_cut [] ds (y ∷ ys) es a b e =
    let f : ds ≡ ys ++ 91 ∷ es = cc in
    absurd (a (length ys) (omega (arith, ap length f, length-append ys (91 ∷ es))) (ap (λ l. get_or l (length ys) 0) f ∙ get_or-append_seam ys 91 es 0))
one_cut (x ∷ xs) ds [] es a b e =
    let f : es ≡ xs ++ 91 ∷ ds = cc in
    absurd (b (length xs) (omega (arith, ap length f, length-append xs (91 ∷ ds))) (ap (λ l. get_or l (length xs) 0) f ∙ get_or-append_seam xs 91 ds 0))
one_cut (x ∷ xs) ds (y ∷ ys) es a b e =
    let f : xs ++ 91 ∷ ds ≡ ys ++ 91 ∷ es = cc in
    let first : x ≡ y = cc in
    let h = one_cut xs ds ys es a b f in
    let rest : xs ≡ ys = h.0 in
    (cc, h.1)

same_number : (bit other : ℕ) → bit < 2 ^ 32 → other < 2 ^ 32 → decimal bit ≡ decimal other → bit ≡ other
same_number bit other l m e =
    let w = decimal_writes bit (omega arith) in
    let v = decimal_writes other (omega arith) in
    sym w.value ∙ ap value_of e ∙ v.value

-- a name is that of one bit of one identifier
pub one_bit : (base other : List ℕ) (bit k : ℕ) → bit < 2 ^ 32 → k < 2 ^ 32 → net_name base (Some bit) ≡ net_name other (Some k) → (base ≡ other) × (bit ≡ k)
one_bit base other bit k l m e =
    let fronts : base ++ 91 ∷ decimal bit ≡ other ++ 91 ∷ decimal k =
    sym (but_last (base ++ 91 ∷ decimal bit) 93) ∙ ap (λ n. take (length n - 1) n) e ∙ but_last (other ++ 91 ∷ decimal k) 93
    in
    let h = one_cut base (decimal bit) other (decimal k) (no_open bit l) (no_open k m) fronts in
    (h.0, same_number bit k l m h.1)

-- the front of a name of a bit, without its `]`
pub front_of : (front name base : List ℕ) (last bit : ℕ) → name ≡ front ++ last ∷ [] → name ≡ net_name base (Some bit) → front ≡ base ++ 91 ∷ decimal bit
front_of front name base last bit h e =
    sym (but_last front last) ∙ ap (λ n. take (length n - 1) n) (sym h ∙ e) ∙ but_last (base ++ 91 ∷ decimal bit) 93

cut_at : (xs : List ℕ) (k : ℕ) → k < length xs → take k xs ++ get_or xs k 0 ∷ drop (k + 1) xs ≡ xs
cut_at xs k l =
    ap (λ n. take k xs ++ get_or xs k 0 ∷ drop n xs) (let e : k + 1 ≡ suc k = omega arith in e)
    ∙ ap (λ ys. take k xs ++ ys) (sym (drop-cons xs k 0 l)) ∙ take-append-drop k xs

-- what stands behind the last `[` of such a front is the number
pub number_of_front : (front base : List ℕ) (bit k : ℕ) → bit < 2 ^ 32 → front ≡ base ++ 91 ∷ decimal bit → k < length front → get_or front k 0 ≡ 91
    → ((j : ℕ) → k + 1 ≤ j → j < length front → get_or front j 0 ≢ 91) → drop (k + 1) front ≡ decimal bit
number_of_front front base bit k l e less is after =
    let cut : take k front ++ 91 ∷ drop (k + 1) front ≡ base ++ 91 ∷ decimal bit =
    ap (λ b. take k front ++ b ∷ drop (k + 1) front) (sym is) ∙ cut_at front k less ∙ e
    in
    (one_cut (take k front) (drop (k + 1) front) base (decimal bit)
    (λ i low. λ f. after (k + 1 + i) (omega arith) (omega (arith, low, length-drop (k + 1) front)) (sym (get_or-drop (k + 1) front i 0) ∙ f))
    (no_open bit l) cut).1

-- ---- whether a name is that of a net

same_answer : (x y : Bool) → (x ≡ true → y ≡ true) → (y ≡ true → x ≡ true) → x ≡ y
same_answer true true f g = refl
same_answer true false f g = sym (f refl)
same_answer false true f g = g refl
same_answer false false f g = refl

-- a bit of an identifier has the name of a bit where both are the same
pub bits_named : (own base : List ℕ) (number bit : ℕ) → number < 2 ^ 32 → bit < 2 ^ 32 → (name : List ℕ) → name ≡ net_name own (Some number)
    → (answer : Bool) → (answer ≡ true → (number ≡ bit) × (own ≡ base)) → ((number ≡ bit) → (own ≡ base) → answer ≡ true)
    → answer ≡ bytes_eq (net_name base (Some bit)) name
bits_named own base number bit l m name e answer to back =
    same_answer answer (bytes_eq (net_name base (Some bit)) name)
    (λ t. let h = to t in (bytes_eq-Decides (net_name base (Some bit)) name).1 ((λ i. net_name (sym h.1 i) (Some (sym h.0 i))) ∙ sym e))
    (λ t. let h = one_bit own base number bit l m (sym e ∙ sym ((bytes_eq-Decides (net_name base (Some bit)) name).0 t)) in back h.1 h.0)

-- a text that is not that of a bit is not its name
pub not_named : (name base : List ℕ) (bit : ℕ) → (net_name base (Some bit) ≡ name → ⊥) → false ≡ bytes_eq (net_name base (Some bit)) name
not_named name base bit other = same_answer _ _ (λ t. absurd (cc)) (λ t. absurd (other ((bytes_eq-Decides (net_name base (Some bit)) name).0 t)))

-- what is read of a number's text is the number
pub read_again : ((n places most : ℕ) → n < 2 ^ 64 → n ≤ most → scaled (pos places) most (scaled_text n places) ≡ Ok n)
    → (bit : ℕ) → bit < 2 ^ 32 → scaled (pos 0) (10 ^ 15) (decimal bit) ≡ Ok bit
unfolding scaled_text
read_again law bit l = law bit 0 (10 ^ 15) (omega arith) (omega arith)

pub is_open : (b : ℕ) → is_byte 91 b ≡ true → b ≡ 91
is_open b t = grind (arith, nat_tests, t)

pub not_open : (b : ℕ) → (is_byte 91 b ≡ true → ⊥) → b ≢ 91
not_open b none e = none (ap (is_byte 91) e)

pub rest_of : (front : List ℕ) (k : ℕ) → take (length front - k) (drop k front) ≡ drop k front
rest_of front k = ap (λ n. take n (drop k front)) (sym (length-drop k front)) ∙ take-length (drop k front)
