-- Tokens that stand one after another, and those of them before a place and behind it.
use Rattle.std.proofs.Common.{◌≡◌, ℕ, suc, ◌+◌, ◌<◌, ◌≤◌, Bool, true, false, cond, List, [], ◌∷◌, ◌++◌, length, map, drop, refl, sym, ap, ◌∙◌, subst, arith, length-append}
use Rattle.std.specs.Prelude.{⊤, filter, nat_le, nat_lt}
use Rattle.std.proofs.Math.Seq.{drop-append-add}
use Rattle.std.proofs.lemmas.List.{append-nil}
use Rattle.std.proofs.lemmas.Bool.Decides.{nat_tests}
use Rattle.ver_text.specs.declared.token.Token.{Token}
use Rattle.ver_text.specs.Laws.{StandBetween}
use Rattle.ver_text.specs.Tokens.{directive_length, piece, tokens_from, tokens_of}
use Rattle.ver_text.proofs.OrderLemmas.{stand_in_order}
use Rattle.ver_text.proofs.TokenLemmas.{jump}
use Rattle.ver_patch_text_laws.specs.Words.{WordEdit, word_in, words_with}
use Rattle.ver_patch_text_laws.proofs.ScanLemmas.{found}

-- each token has this
abbrev pub Each : (Token → Type 0) → List Token → Type 0
Each P [] = ⊤
Each P (t ∷ ts) = P t × Each P ts

pub each_append : (P : Token → Type 0) (xs ys : List Token) → Each P xs → Each P ys → Each P (xs ++ ys)
each_append P [] ys h k = k
each_append P (x ∷ xs) ys h k = (h.0, each_append P xs ys h.1 k)

pub each_weak : (P Q : Token → Type 0) → ((t : Token) → P t → Q t) → (xs : List Token) → Each P xs → Each Q xs
each_weak P Q f [] h = tt
each_weak P Q f (x ∷ xs) h = (f x h.0, each_weak P Q f xs h.1)

-- ---- order

-- a token among others: those before it end before it begins, and those behind it begin behind it
pub record IsAmong (front : List Token) (t : Token) (back : List Token) (from to : ℕ) : Type 0 where
  pub low : from ≤ t.from
  pub some : t.from < t.to
  pub high : t.to ≤ to
  pub before : Each (λ x. x.from < t.from) front
  pub behind : Each (λ x. t.to ≤ x.from) back

all_behind : (ts : List Token) (at from to : ℕ) → at ≤ from → StandBetween from to ts → Each (λ x. at ≤ x.from) ts
all_behind [] at from to low h = tt
all_behind (t ∷ ts) at from to low h = (omega (arith, low, h.0), all_behind ts at t.to to (omega (arith, low, h.0, h.1)) h.2)

ends_low : (ts : List Token) (from to : ℕ) → StandBetween from to ts → from ≤ to
ends_low [] from to h = h
ends_low (t ∷ ts) from to h = omega (arith, h.0, h.1, ends_low ts t.to to h.2)

pub among : (front : List Token) (t : Token) (back : List Token) (from to : ℕ) → StandBetween from to (front ++ t ∷ back) → IsAmong front t back from to
among [] t back from to h = record {
  low = h.0;
  some = h.1;
  high = ends_low back t.to to h.2;
  before = tt;
  behind = all_behind back t.to t.to to (omega arith) h.2;
}
among (f ∷ front) t back from to h =
    let k = among front t back f.to to h.2 in
    record {
      low = omega (arith, h.0, h.1, k.low);
      some = k.some;
      high = k.high;
      before = (omega (arith, h.1, k.low), k.before);
      behind = k.behind;
    }

-- ---- tokens before a place and behind it

filter_all : (p : Token → Bool) (P : Token → Type 0) → ((t : Token) → P t → p t ≡ true) → (xs : List Token) → Each P xs → filter p xs ≡ xs
filter_all p P f [] h = refl
filter_all p P f (x ∷ xs) h = rw (f x h.0) (ap (λ ys. x ∷ ys) (filter_all p P f xs h.1))

filter_none : (p : Token → Bool) (P : Token → Type 0) → ((t : Token) → P t → p t ≡ false) → (xs : List Token) → Each P xs → filter p xs ≡ []
filter_none p P f [] h = refl
filter_none p P f (x ∷ xs) h = rw (f x h.0) (filter_none p P f xs h.1)

filter_append : (p : Token → Bool) (xs ys : List Token) → filter p (xs ++ ys) ≡ filter p xs ++ filter p ys
filter_append p [] ys = refl
filter_append p (x ∷ xs) ys = by_test (p x) (filter_append p xs ys)
  where
    by_test : (b : Bool) → filter p (xs ++ ys) ≡ filter p xs ++ filter p ys
        → cond b (x ∷ filter p (xs ++ ys)) (filter p (xs ++ ys)) ≡ cond b (x ∷ filter p xs) (filter p xs) ++ filter p ys
    by_test true e = ap (λ zs. x ∷ zs) e
    by_test false e = e

is_below : (at : ℕ) (t : Token) → t.from < at → nat_lt t.from at ≡ true
is_below at t h = grind (arith, nat_tests)

is_not_below : (at : ℕ) (t : Token) → at ≤ t.from → nat_lt t.from at ≡ false
is_not_below at t h = grind (arith, nat_tests)

is_behind : (at : ℕ) (t : Token) → at ≤ t.from → nat_le at t.from ≡ true
is_behind at t h = grind (arith, nat_tests)

is_not_behind : (at : ℕ) (t : Token) → t.from < at → nat_le at t.from ≡ false
is_not_behind at t h = grind (arith, nat_tests)

-- the words of tokens of which some give way
pub words_replaced : (text : List ℕ) (e : WordEdit) (edits : List WordEdit) (front old back : List Token) → Each (λ t. t.from < e.from) front
    → Each (λ t. (e.from ≤ t.from) × (t.from < e.to)) old → Each (λ t. e.to ≤ t.from) back → e.from ≤ e.to
    → words_with text (e ∷ edits) (front ++ (old ++ back)) ≡ map (word_in text) front ++ (e.words ++ words_with text edits back)
words_replaced text e edits front old back before inside behind up =
    let first : filter (λ t. nat_lt t.from e.from) (front ++ (old ++ back)) ≡ front
    = filter_append (λ t. nat_lt t.from e.from) front (old ++ back)
    ∙ (λ i. filter_all (λ t. nat_lt t.from e.from) (λ t. t.from < e.from) (is_below e.from) front before i
    ++ filter_none (λ t. nat_lt t.from e.from) (λ t. e.from ≤ t.from) (is_not_below e.from) (old ++ back)
    (each_append (λ t. e.from ≤ t.from) old back (each_weak _ (λ t. e.from ≤ t.from) (λ t h. h.0) old inside)
    (each_weak (λ t. e.to ≤ t.from) (λ t. e.from ≤ t.from) (λ t h. omega (arith, h, up)) back behind)) i)
    ∙ append-nil front in
    let last : filter (λ t. nat_le e.to t.from) (front ++ (old ++ back)) ≡ back
    = filter_append (λ t. nat_le e.to t.from) front (old ++ back)
    ∙ (λ i. filter_none (λ t. nat_le e.to t.from) (λ t. t.from < e.to) (is_not_behind e.to) front
    (each_weak (λ t. t.from < e.from) (λ t. t.from < e.to) (λ t h. omega (arith, h, up)) front before) i
    ++ filter_append (λ t. nat_le e.to t.from) old back i)
    ∙ (λ i. filter_none (λ t. nat_le e.to t.from) (λ t. t.from < e.to) (is_not_behind e.to) old
    (each_weak _ (λ t. t.from < e.to) (λ t h. h.1) old inside) i
    ++ filter_all (λ t. nat_le e.to t.from) (λ t. e.to ≤ t.from) (is_behind e.to) back behind i) in
    λ i. map (word_in text) (first i) ++ (e.words ++ words_with text edits (last i))

-- ---- the place behind a token

-- behind a token the rest of a text has the tokens that follow
pub record IsBehind (text : List ℕ) (at : ℕ) (ts : List Token) : Type 0 where
  pub within : at ≤ length text
  pub tokens : tokens_from 0 at (drop at text) ≡ ts

pub behind_token : (text : List ℕ) (front : List Token) (t : Token) (back : List Token) → tokens_of text ≡ front ++ t ∷ back → IsBehind text t.to back
behind_token text front t back e =
    let stand = among front t back 0 (length text) (subst (StandBetween 0 (length text)) e (stand_in_order text)) in
    let p = found text (directive_length text) 0 front t back e in
    let n = (piece p.b p.bs).more in
    let whole : length text ≡ length p.us + length (p.b ∷ p.bs) = ap length p.is ∙ length-append p.us (p.b ∷ p.bs) in
    let low : n ≤ length p.bs = let h = stand.high in omega (arith, whole, p.to, p.from, h) in
    let place : t.to ≡ length p.us + (1 + n) = omega (arith, p.to, p.from) in
    let more : 1 + n ≡ suc n = omega arith in
    let rest : drop t.to text ≡ drop n p.bs
    = (λ i. drop (place i) (p.is i)) ∙ drop-append-add p.us (p.b ∷ p.bs) (1 + n) ∙ ap (λ (k : ℕ). drop k (p.b ∷ p.bs)) more in
    let at : t.from + 1 + n ≡ t.to = omega (arith, p.to) in
    record {
      within = stand.high;
      tokens = (λ i. tokens_from 0 (sym at i) (rest i)) ∙ sym (jump n (t.from + 1) p.bs low) ∙ p.after;
    }
