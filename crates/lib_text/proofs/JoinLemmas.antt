-- A text whose lines are joined in place.
use Rattle.std.proofs.Common.{◌≡◌, ℕ, zero, suc, ◌+◌, ◌-◌, ◌<◌, ◌≤◌, ◌==◌, ◌||◌, false, List, [], ◌∷◌, ◌++◌, length, take, take_all, drop, get_or, replicate, arith, refl, sym, ap, ◌∙◌, length-drop, drop-drop, append_assoc, add-one, drop-cons, Bool, true}
use Rattle.std.proofs.lemmas.List.{take_more, drop_all, append-nil}
use Rattle.std.proofs.Math.Seq.{take-add}
use Rattle.std.proofs.lemmas.Grind.{common_steps}
use Rattle.std.proofs.lemmas.Bool.Decides.{nat_tests}
use Rattle.lib_text.specs.Joined.{blank_length, joined_from, joined, is_mark}
use Rattle.lib_text.specs.Joining.{Joins}

put : (old new ws rest all : List ℕ) → new ≡ old ++ ws → all ≡ ws ++ rest → new ++ rest ≡ old ++ all
put old new ws rest all e f = rw e (rw f (append_assoc old ws rest))

none : joined [] ≡ []
unfolding joined_from
none = refl

skipped : (n : ℕ) (bs : List ℕ) → n ≤ length bs → joined_from n bs ≡ replicate n 32 ++ joined (drop n bs)
unfolding joined_from
skipped zero bs h = refl
skipped (suc n) [] h = absurd (omega arith)
skipped (suc n) (b ∷ bs) h = ap (λ (xs : List ℕ). 32 ∷ xs) (skipped n bs (omega arith))

stays_by : (b : ℕ) (bs : List ℕ) (n : ℕ) → n ≡ blank_length (b ∷ bs) → n ≡ 0 → joined (b ∷ bs) ≡ b ∷ joined bs
unfolding joined_from
stays_by b bs n e f = rw (← e, f) refl

blank_by : (b : ℕ) (bs : List ℕ) (n : ℕ) → suc n ≡ blank_length (b ∷ bs) → joined (b ∷ bs) ≡ 32 ∷ joined_from n bs
unfolding joined_from
blank_by b bs n e =
    let z : (suc n == 0) ≡ false = grind (arith, nat_tests) in
    let m : suc n - 1 ≡ n = omega arith in
    rw (← e, z, m) refl

blank : (n : ℕ) (bs : List ℕ) → 0 < n → n ≤ length bs → n ≡ blank_length bs → joined bs ≡ replicate n 32 ++ joined (drop n bs)
blank zero bs l h e = absurd (omega arith)
blank (suc n) [] l h e = absurd (omega arith)
blank (suc n) (b ∷ bs) l h e = blank_by b bs n e ∙ ap (λ (xs : List ℕ). 32 ∷ xs) (skipped n bs (omega arith))

neither : (x y : Bool) → (x || y) ≡ false → (x ≡ false) × (y ≡ false)
neither true y e = absurd (cc)
neither false y e = (refl, e)

no_blank : (b : ℕ) (bs : List ℕ) → is_mark b ≡ false → blank_length (b ∷ bs) ≡ 0
no_blank b bs e = let (f, g) = neither (b == 92) (b == 13) e in rw (f, g) refl

stay : (n : ℕ) (bs : List ℕ) → n ≤ length bs → ((k : ℕ) → k < n → is_mark (get_or bs k 0) ≡ false) → joined bs ≡ take n bs ++ joined (drop n bs)
stay zero bs l h = refl
stay (suc n) [] l h = absurd (omega arith)
stay (suc n) (b ∷ bs) l h =
    stays_by b bs 0 (sym (no_blank b bs (h 0 (omega arith)))) refl
    ∙ ap (λ (xs : List ℕ). b ∷ xs) (stay n bs (omega arith) (λ k low. h (suc k) (omega arith)))

get_dropped : (bytes : List ℕ) (at k : ℕ) → get_or (drop at bytes) k 0 ≡ get_or bytes (at + k) 0
get_dropped bytes at k = grind (arith, common_steps)

rest_of : (text : List ℕ) (at to : ℕ) → at < to → drop (to - at) (drop at text) ≡ drop to text
rest_of text at to l = drop-drop (to - at) at text ∙ ap (λ k. drop k text) (let x : at + (to - at) ≡ to = omega arith in x)

-- bytes that begin nothing blank stay
pub plain_joins : (text : List ℕ) (at to : ℕ) → at < to → to ≤ length text → ((k : ℕ) → at ≤ k → k < to → is_mark (get_or text k 0) ≡ false) → Joins text text at to
plain_joins text at to l h plain =
    let n = to - at in
    let e : take to text ≡ take at text ++ take n (drop at text) = ap (λ k. take k text) (let x : to ≡ at + n = omega arith in x) ∙ take-add at n text in
    let s = stay n (drop at text) (omega (arith, length-drop at text)) (λ k low. ap is_mark (get_dropped text at k) ∙ plain (at + k) (omega arith) (omega arith)) in
    record {
      same =
          put (take at text) (take to text) (take n (drop at text)) (joined (drop to text)) (joined (drop at text)) e
          (s ∙ ap (λ xs. take n (drop at text) ++ joined xs) (rest_of text at to l));
      on = l;
      within = h;
      long = refl;
    }

whole : (text : List ℕ) (at : ℕ) → take (length text - at) (drop at text) ≡ drop at text
whole text at = take_all (length text - at) (drop at text) (omega (arith, length-drop at text))

pub fits : (text : List ℕ) (at n : ℕ) → at < length text → n ≤ length (take (length text - at) (drop at text)) → at + n ≤ length text
fits text at n h l = omega (arith, length-drop at text, rw (whole text at) at l)

-- a byte stays
pub one_joins : (text : List ℕ) (at n : ℕ) → at < length text → n ≡ blank_length (take (length text - at) (drop at text)) → n ≡ 0 → Joins text text at (at + 1)
one_joins text at n h e f =
    let d : drop at text ≡ get_or text at 0 ∷ drop (at + 1) text = rw add-one (drop-cons text at 0 h) in
    record {
      same =
          put (take at text) (take (at + 1) text) (get_or text at 0 ∷ []) (joined (drop (at + 1) text)) (joined (drop at text)) (take_more text at 0 h)
          (ap joined d ∙ stays_by (get_or text at 0) (drop (at + 1) text) n (e ∙ ap blank_length (whole text at ∙ d)) f);
      on = omega arith;
      within = omega arith;
      long = refl;
    }

-- some bytes become blank
pub blank_joins : (old new : List ℕ) (at n : ℕ) → n ≡ blank_length (take (length old - at) (drop at old)) → (n ≡ 0 → ⊥) → at + n ≤ length old
    → take (at + n) new ≡ take at old ++ replicate (at + n - at) 32 → drop (at + n) new ≡ drop (at + n) old → length new ≡ length old → Joins old new at (at + n)
blank_joins old new at n e f h front rest long =
    let k : at + n - at ≡ n = omega arith in
    let some : 0 < n = omega (arith, f) in
    record {
      same =
          ap (λ xs. take (at + n) new ++ joined xs) rest
          ∙ put (take at old) (take (at + n) new) (replicate n 32) (joined (drop (at + n) old)) (joined (drop at old)) (rw k at front)
          (blank n (drop at old) some (omega (arith, length-drop at old)) (e ∙ ap blank_length (whole old at))
          ∙ ap (λ xs. replicate n 32 ++ joined xs) (drop-drop n at old));
      on = omega arith;
      within = h;
      long = long;
    }

pub all_joined : (text : List ℕ) (at : ℕ) → length text ≤ at → take at text ++ joined (drop at text) ≡ text
all_joined text at l =
    ap (λ xs. xs ++ joined (drop at text)) (take_all at text l) ∙ ap (λ xs. text ++ joined xs) (drop_all at text l) ∙ ap (λ xs. text ++ xs) none ∙ append-nil text
