-- The first bytes of what is left of a text.
use Rattle.std.proofs.Common.{◌≡◌, ℕ, suc, ◌+◌, ◌<◌, List, [], ◌∷◌, length, drop, get_or, refl, sym, ap, ◌∙◌, arith, drop-cons, add-one, eqb, Bool, true, false, ◌&&◌, ◌||◌, ◌==◌, cond, ◌⊎◌, inl, inr}
use Rattle.std.proofs.lemmas.Bool.Decides.{nat_tests}
use Rattle.vg_scan.specs.Comments.{blanked, StaysOrBlanks}
use Rattle.vg_scan.proofs.Clearing.{Scan, Outside, Quoted, InLine, InBlock, cleared_in}
use Rattle.std.specs.List.{AllZip}

pub one : (bytes : List ℕ) (at : ℕ) → at < length bytes → drop at bytes ≡ get_or bytes at 0 ∷ drop (at + 1) bytes
one bytes at h = drop-cons bytes at 0 h ∙ ap (λ m. get_or bytes at 0 ∷ drop m bytes) (sym (add-one at))

pub two : (bytes : List ℕ) (at : ℕ) → at + 1 < length bytes → drop at bytes ≡ get_or bytes at 0 ∷ get_or bytes (at + 1) 0 ∷ drop (at + 2) bytes
two bytes at h = one bytes at (omega arith) ∙ ap (λ xs. get_or bytes at 0 ∷ xs) (one bytes (at + 1) (omega arith) ∙ ap (λ m. get_or bytes (at + 1) 0 ∷ drop m bytes) (let e : at + 1 + 1 ≡ at + 2 = omega arith in e))

pub eq_test : (a b : ℕ) → a ≡ b → eqb a b ≡ true
eq_test a b e = grind (arith, nat_tests)

pub ne_test : (a b : ℕ) → (a ≡ b → ⊥) → eqb a b ≡ false
ne_test a b e = grind (arith, nat_tests)

pub escape : (b c : ℕ) (bs : List ℕ) → b ≡ 92 → cleared_in Outside (b ∷ c ∷ bs) ≡ b ∷ c ∷ cleared_in Outside bs
unfolding cleared_in
escape b c bs e = rw (eq_test b 92 e) refl

pub quote : (b c : ℕ) (bs : List ℕ) → b ≡ 34 → cleared_in Outside (b ∷ c ∷ bs) ≡ b ∷ cleared_in Quoted (c ∷ bs)
unfolding cleared_in
quote b c bs e = rw (ne_test b 92 (λ x. omega arith)) (rw (eq_test b 34 e) refl)

pub line_mark : (b c : ℕ) (bs : List ℕ) → b ≡ 47 → c ≡ 47 → cleared_in Outside (b ∷ c ∷ bs) ≡ 32 ∷ 32 ∷ cleared_in InLine bs
unfolding cleared_in
line_mark b c bs e f = rw (ne_test b 92 (λ x. omega arith)) (rw (ne_test b 34 (λ x. omega arith)) (rw (eq_test b 47 e) (rw (eq_test c 47 f) refl)))

pub block_mark : (b c : ℕ) (bs : List ℕ) → b ≡ 47 → c ≡ 42 → cleared_in Outside (b ∷ c ∷ bs) ≡ 32 ∷ 32 ∷ cleared_in InBlock bs
unfolding cleared_in
block_mark b c bs e f = rw (ne_test b 92 (λ x. omega arith)) (rw (ne_test b 34 (λ x. omega arith)) (rw (eq_test b 47 e) (rw (ne_test c 47 (λ x. omega arith)) (rw (eq_test c 42 f) refl))))

pub and_none : (a b : Bool) → (a ≡ true → b ≡ true → ⊥) → (a && b) ≡ false
and_none true true h = absurd (h refl refl)
and_none true false h = refl
and_none false b h = refl

pub eq_of : (a b : ℕ) → eqb a b ≡ true → a ≡ b
eq_of a b e = grind (arith, nat_tests)

pub plain : (b c : ℕ) (bs : List ℕ) → (b ≡ 92 → ⊥) → (b ≡ 34 → ⊥) → (b ≡ 47 → c ≡ 47 → ⊥) → (b ≡ 47 → c ≡ 42 → ⊥) → cleared_in Outside (b ∷ c ∷ bs) ≡ b ∷ cleared_in Outside (c ∷ bs)
unfolding cleared_in
plain b c bs e f g h =
    let k : (eqb b 47 && eqb c 47) ≡ false = and_none (eqb b 47) (eqb c 47) (λ x y. g (eq_of b 47 x) (eq_of c 47 y)) in
    let l : (eqb b 47 && eqb c 42) ≡ false = and_none (eqb b 47) (eqb c 42) (λ x y. h (eq_of b 47 x) (eq_of c 42 y)) in
    rw (ne_test b 92 e) (rw (ne_test b 34 f) (rw k (rw l refl)))

either : (t : Bool) (x y : List ℕ) (n : ℕ) → length x ≡ n → length y ≡ n → length (cond t x y) ≡ n
either true x y n e f = e
either false x y n e f = f

-- a text keeps its length
pub length-cleared : (scan : Scan) (text : List ℕ) → length (cleared_in scan text) ≡ length text
unfolding cleared_in
length-cleared scan [] = refl
length-cleared Outside (b ∷ []) = refl
length-cleared Outside (b ∷ c ∷ bs) =
    either (b == 92) _ _ _ (ap (λ n. suc (suc n)) (length-cleared Outside bs))
    (either (b == 34) _ _ _ (ap suc (length-cleared Quoted (c ∷ bs)))
    (either ((b == 47) && (c == 47)) _ _ _ (ap (λ n. suc (suc n)) (length-cleared InLine bs))
    (either ((b == 47) && (c == 42)) _ _ _ (ap (λ n. suc (suc n)) (length-cleared InBlock bs))
    (ap suc (length-cleared Outside (c ∷ bs))))))
length-cleared Quoted (b ∷ bs) = ap suc (either ((b == 34) || (b == 10)) _ _ _ (length-cleared Outside bs) (length-cleared Quoted bs))
length-cleared InLine (b ∷ bs) = either (b == 10) _ _ _ (ap suc (length-cleared Outside bs)) (ap suc (length-cleared InLine bs))
length-cleared InBlock (b ∷ []) = refl
length-cleared InBlock (b ∷ c ∷ bs) = either ((b == 42) && (c == 47)) _ _ _ (ap (λ n. suc (suc n)) (length-cleared Outside bs)) (ap suc (length-cleared InBlock (c ∷ bs)))

pub record Clears (text clear : List ℕ) : Type 0 where
  pub holds : AllZip StaysOrBlanks text clear

pick : (t : Bool) (bs x y : List ℕ) → (t ≡ true → Clears bs x) → (t ≡ false → Clears bs y) → Clears bs (cond t x y)
pick true bs x y f g = f refl
pick false bs x y f g = g refl

no_newline : (b k : ℕ) → (k ≡ 10 → ⊥) → eqb b k ≡ true → b ≡ 10 → ⊥
no_newline b k h e f = h (sym (eq_of b k e) ∙ f)

pub first_of : (a b : Bool) → (a && b) ≡ true → a ≡ true
first_of true b e = refl
first_of false b e = e

pub second_of : (a b : Bool) → (a && b) ≡ true → b ≡ true
second_of true b e = e
second_of false b e = grind (arith, nat_tests)

blanked_fits : (b : ℕ) → (blanked b ≡ b) ⊎ ((b ≡ 10 → ⊥) × (blanked b ≡ 32))
blanked_fits b = grind (arith, nat_tests)

pub ne_of_false : (a b : ℕ) → eqb a b ≡ false → a ≡ b → ⊥
ne_of_false a b e f = grind (arith, nat_tests)

stay : (b : ℕ) (text clear : List ℕ) → Clears text clear → Clears (b ∷ text) (b ∷ clear)
stay b text clear h = record { holds = (inl refl, h.holds) }

blank : (b : ℕ) (text clear : List ℕ) → (b ≡ 10 → ⊥) → Clears text clear → Clears (b ∷ text) (32 ∷ clear)
blank b text clear n h = record { holds = (inr (n, refl), h.holds) }

blank_two : (b c k l : ℕ) (text clear : List ℕ) → (k ≡ 10 → ⊥) → (l ≡ 10 → ⊥) → (eqb b k && eqb c l) ≡ true → Clears text clear → Clears (b ∷ c ∷ text) (32 ∷ 32 ∷ clear)
blank_two b c k l text clear m n e h =
    blank b (c ∷ text) (32 ∷ clear) (no_newline b k m (first_of _ _ e)) (blank c text clear (no_newline c l n (second_of _ _ e)) h)

turn : (b : ℕ) (text clear : List ℕ) → Clears text clear → Clears (b ∷ text) (blanked b ∷ clear)
turn b text clear h = record { holds = (blanked_fits b, h.holds) }

-- only bytes of comments become another
pub only_blanks : (scan : Scan) (text : List ℕ) → Clears text (cleared_in scan text)
unfolding cleared_in
only_blanks scan [] = record { holds = tt }
only_blanks Outside (b ∷ []) = record { holds = (inl refl, tt) }
only_blanks Outside (b ∷ c ∷ bs) =
    pick (b == 92) _ _ _ (λ e. stay _ _ _ (stay _ _ _ (only_blanks Outside bs))) (λ _.
    pick (b == 34) _ _ _ (λ e. stay _ _ _ (only_blanks Quoted (c ∷ bs))) (λ _.
    pick ((b == 47) && (c == 47)) _ _ _ (λ e. blank_two b c 47 47 _ _ (λ x. omega arith) (λ x. omega arith) e (only_blanks InLine bs)) (λ _.
    pick ((b == 47) && (c == 42)) _ _ _ (λ e. blank_two b c 47 42 _ _ (λ x. omega arith) (λ x. omega arith) e (only_blanks InBlock bs)) (λ _.
    stay _ _ _ (only_blanks Outside (c ∷ bs))))))
only_blanks Quoted (b ∷ bs) = stay _ _ _ (pick ((b == 34) || (b == 10)) _ _ _ (λ _. only_blanks Outside bs) (λ _. only_blanks Quoted bs))
only_blanks InLine (b ∷ bs) = pick (b == 10) _ _ _ (λ _. stay _ _ _ (only_blanks Outside bs)) (λ e. blank _ _ _ (λ f. ne_of_false b 10 e f) (only_blanks InLine bs))
only_blanks InBlock (b ∷ []) = record { holds = (blanked_fits b, tt) }
only_blanks InBlock (b ∷ c ∷ bs) =
    pick ((b == 42) && (c == 47)) _ _ _ (λ e. blank_two b c 42 47 _ _ (λ x. omega arith) (λ x. omega arith) e (only_blanks Outside bs))
    (λ _. turn _ _ _ (only_blanks InBlock (c ∷ bs)))
