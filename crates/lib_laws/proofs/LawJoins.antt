-- Joined lines, place by place.
use Rattle.std.proofs.Common.{◌≡◌, ℕ, zero, suc, ◌+◌, ◌-◌, ◌<◌, ◌≤◌, ◌==◌, ◌||◌, ◌⊎◌, inl, inr, nat_lt, Bool, true, false, List, [], ◌∷◌, length, get_or, refl, sym, ap, ◌∙◌, arith}
use Rattle.std.proofs.lemmas.Bool.Decides.{nat_tests}
use Rattle.std.proofs.lemmas.List.Elements.{All-head, All-tail}
use Rattle.lib_text.specs.Joined.{blank_length, is_at, is_mark, is_return_at, joined_from, line_end_length}
use Rattle.lib_laws.specs.Laws.{goes_on, IsBlanked, JoinedByPlace, PlainStays}

-- ---- a text without its first byte

end_later : (b : ℕ) (bs : List ℕ) (at : ℕ) → line_end_length (b ∷ bs) (suc at) ≡ line_end_length bs at
end_later b bs at = let e : suc at + 1 ≡ suc (at + 1) = omega arith in rw e refl

return_later : (b : ℕ) (bs : List ℕ) (at : ℕ) → is_return_at (b ∷ bs) (suc at) ≡ is_return_at bs at
return_later b bs at = let e : suc at + 1 ≡ suc (at + 1) = omega arith in rw e refl

next_end : (b : ℕ) (bs : List ℕ) (at : ℕ) → line_end_length (b ∷ bs) (suc at + 1) ≡ line_end_length bs (at + 1)
next_end b bs at = let e : suc at + 1 ≡ suc (at + 1) = omega arith in rw e (end_later b bs (at + 1))

goes_on_later : (b : ℕ) (bs : List ℕ) (at : ℕ) → goes_on (b ∷ bs) (suc at) ≡ goes_on bs at
goes_on_later b bs at = rw (next_end b bs at) refl

-- a place is blank by what follows the first byte, or by a line that goes on there
earlier : (b : ℕ) (bs : List ℕ) (at : ℕ) → IsBlanked (b ∷ bs) (suc at) → IsBlanked bs at ⊎ ((goes_on (b ∷ bs) 0 ≡ true) × (at < line_end_length bs 0))
earlier b bs at (inl (zero, g, l, m)) = inr (g, omega (arith, m, end_later b bs 0))
earlier b bs at (inl (suc from, g, l, m)) = inl (inl (from, sym (goes_on_later b bs from) ∙ g, omega arith, omega (arith, m, next_end b bs from)))
earlier b bs at (inr r) = inl (inr (sym (return_later b bs at) ∙ r))

later : (b : ℕ) (bs : List ℕ) (at : ℕ) → IsBlanked bs at → IsBlanked (b ∷ bs) (suc at)
later b bs at (inl (from, g, l, m)) = inl (suc from, goes_on_later b bs from ∙ g, omega arith, omega (arith, m, next_end b bs from))
later b bs at (inr r) = inr (return_later b bs at ∙ r)

in_end : (b : ℕ) (bs : List ℕ) (at : ℕ) → goes_on (b ∷ bs) 0 ≡ true → at < line_end_length bs 0 → IsBlanked (b ∷ bs) (suc at)
in_end b bs at g l = inl (0, g, omega arith, omega (arith, end_later b bs 0))

-- ---- no line goes on in a line's end

no_backslash : (text : List ℕ) (at : ℕ) → is_at text at 92 ≡ false → goes_on text at ≡ false
no_backslash text at e = rw e refl

abbrev NoneGoesOn : ℕ → List ℕ → Type 0
NoneGoesOn n bs = (at : ℕ) → at < n → goes_on bs at ≡ false

newline_other : (x : ℕ) → (x == 10) ≡ true → (x == 92) ≡ false
newline_other x e = grind (arith, nat_tests)

return_other : (x : ℕ) → (x == 13) ≡ true → (x == 92) ≡ false
return_other x e = grind (arith, nat_tests)

in_two : (bs : List ℕ) (at : ℕ) → at < 2 → is_at bs 0 13 ≡ true → is_at bs 1 10 ≡ true → goes_on bs at ≡ false
in_two bs zero l f g = no_backslash bs 0 (return_other (get_or bs 0 0) f)
in_two bs (suc zero) l f g = no_backslash bs 1 (newline_other (get_or bs 1 0) g)
in_two bs (suc (suc at)) l f g = absurd (omega arith)

in_line_end : (bs : List ℕ) (at : ℕ) → at < line_end_length bs 0 → goes_on bs at ≡ false
in_line_end bs at l = by_tests (is_at bs 0 10) (is_at bs 0 13) (is_at bs 1 10) refl refl refl l
  where
    by_tests : (x y z : Bool) → is_at bs 0 10 ≡ x → is_at bs 0 13 ≡ y → is_at bs 1 10 ≡ z → at < line_end_length bs 0 → goes_on bs at ≡ false
    by_tests true y z e f g l =
        let h : at < 1 = rw e at l in
        let k : at ≡ 0 = omega arith in rw k (no_backslash bs 0 (newline_other (get_or bs 0 0) e))
    by_tests false true true e f g l = let h : at < 2 = rw (e, f, g) at l in in_two bs at h f g
    by_tests false true false e f g l = let h : at < 0 = rw (e, f, g) at l in absurd (omega arith)
    by_tests false false z e f g l = let h : at < 0 = rw (e, f) at l in absurd (omega arith)

-- ---- the first byte

joined_on : (b : ℕ) (bs : List ℕ) → goes_on (b ∷ bs) 0 ≡ true → joined_from 0 (b ∷ bs) ≡ 32 ∷ joined_from (line_end_length bs 0) bs
unfolding joined_from
joined_on b bs g =
    let n : blank_length (b ∷ bs) ≡ suc (line_end_length bs 0) = rw g (let e = end_later b bs 0 in omega (arith, e)) in
    let z : (suc (line_end_length bs 0) == 0) ≡ false = grind (arith, nat_tests) in
    let m : suc (line_end_length bs 0) - 1 ≡ line_end_length bs 0 = omega arith in
    rw (n, z, m) refl

joined_return : (b : ℕ) (bs : List ℕ) → goes_on (b ∷ bs) 0 ≡ false → is_return_at (b ∷ bs) 0 ≡ true → joined_from 0 (b ∷ bs) ≡ 32 ∷ joined_from 0 bs
unfolding joined_from
joined_return b bs g r =
    let n : blank_length (b ∷ bs) ≡ 1 = rw (g, r) refl in rw n refl

joined_plain : (b : ℕ) (bs : List ℕ) → goes_on (b ∷ bs) 0 ≡ false → is_return_at (b ∷ bs) 0 ≡ false → joined_from 0 (b ∷ bs) ≡ b ∷ joined_from 0 bs
unfolding joined_from
joined_plain b bs g r =
    let n : blank_length (b ∷ bs) ≡ 0 = rw (g, r) refl in rw n refl

-- ---- each place

-- so many bytes are passed over, and the rest is blank where its places are
record Blanks (skip : ℕ) (bs new : List ℕ) : Type 0 where
  long : length new ≡ length bs
  blank : (at : ℕ) → at < length bs → (at < skip) ⊎ IsBlanked bs at → get_or new at 0 ≡ 32
  same : (at : ℕ) → at < length bs → skip ≤ at → (IsBlanked bs at → ⊥) → get_or new at 0 ≡ get_or bs at 0

skipped : (n b : ℕ) (bs new : List ℕ) → NoneGoesOn (suc n) (b ∷ bs) → Blanks n bs new → Blanks (suc n) (b ∷ bs) (32 ∷ new)
skipped n b bs new p r = record {
  long = ap suc r.long;
  blank = blank;
  same = same;
}
  where
    blank : (at : ℕ) → at < suc (length bs) → (at < suc n) ⊎ IsBlanked (b ∷ bs) at → get_or (32 ∷ new) at 0 ≡ 32
    blank zero l i = refl
    blank (suc at) l (inl m) = r.blank at (omega arith) (inl (omega arith))
    blank (suc at) l (inr i) =
        elim (earlier b bs at i) [ inl j ↦ r.blank at (omega arith) (inr j) | inr (g, m) ↦ absurd (let h = p 0 (omega arith) in cc) ]

    same : (at : ℕ) → at < suc (length bs) → suc n ≤ at → (IsBlanked (b ∷ bs) at → ⊥) → get_or (32 ∷ new) at 0 ≡ get_or (b ∷ bs) at 0
    same zero l m h = absurd (omega arith)
    same (suc at) l m h = r.same at (omega arith) (omega arith) (λ i. h (later b bs at i))

went_on : (b : ℕ) (bs new : List ℕ) → goes_on (b ∷ bs) 0 ≡ true → Blanks (line_end_length bs 0) bs new → Blanks 0 (b ∷ bs) (32 ∷ new)
went_on b bs new g r = record {
  long = ap suc r.long;
  blank = blank;
  same = same;
}
  where
    blank : (at : ℕ) → at < suc (length bs) → (at < 0) ⊎ IsBlanked (b ∷ bs) at → get_or (32 ∷ new) at 0 ≡ 32
    blank zero l i = refl
    blank (suc at) l (inl m) = absurd (omega arith)
    blank (suc at) l (inr i) =
        elim (earlier b bs at i) [ inl j ↦ r.blank at (omega arith) (inr j) | inr (_, m) ↦ r.blank at (omega arith) (inl m) ]

    same : (at : ℕ) → at < suc (length bs) → 0 ≤ at → (IsBlanked (b ∷ bs) at → ⊥) → get_or (32 ∷ new) at 0 ≡ get_or (b ∷ bs) at 0
    same zero l m h = absurd (h (inl (0, g, omega arith, omega arith)))
    same (suc at) l m h = by_test (nat_lt at (line_end_length bs 0)) refl
      where
        by_test : (x : Bool) → nat_lt at (line_end_length bs 0) ≡ x → get_or new at 0 ≡ get_or bs at 0
        by_test true e = let k : at < line_end_length bs 0 = grind (arith, nat_tests) in absurd (h (in_end b bs at g k))
        by_test false e =
            let k : line_end_length bs 0 ≤ at = grind (arith, nat_tests) in r.same at (omega arith) k (λ i. h (later b bs at i))

stayed : (b c : ℕ) (bs new : List ℕ) → goes_on (b ∷ bs) 0 ≡ false → (IsBlanked (b ∷ bs) 0 → c ≡ 32) → ((IsBlanked (b ∷ bs) 0 → ⊥) → c ≡ b)
    → Blanks 0 bs new → Blanks 0 (b ∷ bs) (c ∷ new)
stayed b c bs new g first other r = record {
  long = ap suc r.long;
  blank = blank;
  same = same;
}
  where
    blank : (at : ℕ) → at < suc (length bs) → (at < 0) ⊎ IsBlanked (b ∷ bs) at → get_or (c ∷ new) at 0 ≡ 32
    blank at l (inl m) = absurd (omega arith)
    blank zero l (inr i) = first i
    blank (suc at) l (inr i) =
        elim (earlier b bs at i) [ inl j ↦ r.blank at (omega arith) (inr j) | inr (k, m) ↦ absurd (cc) ]

    same : (at : ℕ) → at < suc (length bs) → 0 ≤ at → (IsBlanked (b ∷ bs) at → ⊥) → get_or (c ∷ new) at 0 ≡ get_or (b ∷ bs) at 0
    same zero l m h = other h
    same (suc at) l m h = r.same at (omega arith) (omega arith) (λ i. h (later b bs at i))

not_here : (bs : List ℕ) → goes_on bs 0 ≡ false → is_return_at bs 0 ≡ false → IsBlanked bs 0 → ⊥
not_here bs g r (inl (zero, k, l, m)) = cc
not_here bs g r (inl (suc from, k, l, m)) = omega arith
not_here bs g r (inr k) = cc

joins : (skip : ℕ) (bs : List ℕ) → NoneGoesOn skip bs → Blanks skip bs (joined_from skip bs)
unfolding joined_from
joins skip [] p = record { long = refl; blank = λ at l i. absurd (omega arith); same = λ at l m h. absurd (omega arith) }
joins (suc n) (b ∷ bs) p =
    skipped n b bs (joined_from n bs) p (joins n bs (λ at l. sym (goes_on_later b bs at) ∙ p (suc at) (omega arith)))
joins zero (b ∷ bs) p = by_tests (goes_on (b ∷ bs) 0) (is_return_at (b ∷ bs) 0) refl refl (λ n q. joins n bs q)
  where
    by_tests : (x y : Bool) → goes_on (b ∷ bs) 0 ≡ x → is_return_at (b ∷ bs) 0 ≡ y → ((n : ℕ) → NoneGoesOn n bs → Blanks n bs (joined_from n bs))
        → Blanks 0 (b ∷ bs) (joined_from 0 (b ∷ bs))
    by_tests true y g r k = rw (joined_on b bs g) (went_on b bs (joined_from (line_end_length bs 0) bs) g (k (line_end_length bs 0) (in_line_end bs)))
    by_tests false true g r k =
        rw (joined_return b bs g r) (stayed b 32 bs (joined_from 0 bs) g (λ i. refl) (λ h. absurd (h (inr r))) (k 0 (λ at l. absurd (omega arith))))
    by_tests false false g r k =
        rw (joined_plain b bs g r)
        (stayed b b bs (joined_from 0 bs) g (λ i. absurd (not_here (b ∷ bs) g r i)) (λ h. refl) (k 0 (λ at l. absurd (omega arith))))

pub joined_by_place : JoinedByPlace
joined_by_place text =
    let r = joins 0 text (λ at l. absurd (omega arith)) in
    (r.long, (λ at l i. r.blank at l (inr i)), (λ at l h. r.same at l (omega arith) h))

-- ---- a plain text

neither : (x y : Bool) → (x || y) ≡ false → (x ≡ false) × (y ≡ false)
neither true y e = absurd (cc)
neither false y e = (refl, e)

none : joined_from 0 [] ≡ []
unfolding joined_from
none = refl

pub plain_stays : PlainStays
plain_stays [] u = none
plain_stays (b ∷ bs) u =
    let (x, y) = neither (b == 92) (b == 13) (All-head (λ (b : ℕ). is_mark b ≡ false) b bs u) in
    joined_plain b bs (rw x refl) (rw y refl) ∙ ap (λ xs. b ∷ xs) (plain_stays bs (All-tail (λ (b : ℕ). is_mark b ≡ false) b bs u))
