-- Blanks before a text.
use Rattle.std.proofs.Common.{◌≡◌, ℕ, zero, suc, ◌+◌, ◌-◌, ◌<◌, Bool, true, false, cond, not, List, [], ◌∷◌, map, length, take, drop, get_or, arith, refl, sym, ap, ◌∙◌, Some, None, Option, add-one, eqb, inl, inr, ◌⊎◌}
use Rattle.std.proofs.lemmas.Bool.Decides.{nat_tests}
use Rattle.std.specs.List.{position, position_or_len}
use Rattle.std.specs.Str.Lines.{lines, strip_carriage_return}
use Rattle.vg_scan.specs.Lines.{is_blank, is_newline, words, lines_of}
use Rattle.vg_scan.proofs.LineLemmas.{first_at, first_none, ended_line, last_line}
use Rattle.vg_scan.proofs.CutLemmas.{some_at, none_at}
use Rattle.vg_scan.proofs.WordLemmas.{words_blank}

no_newline : (b : ℕ) → is_blank b ≡ true → is_newline b ≡ false
no_newline b e = grind (arith, nat_tests)

no_return : (b : ℕ) → is_blank b ≡ true → eqb b 13 ≡ false
no_return b e = grind (arith, nat_tests)

strip_by : (l : List ℕ) (n : ℕ) (t : Bool) → length l - 1 ≡ n → eqb (get_or l n 0) 13 ≡ t → strip_carriage_return l ≡ cond t (take n l) l
strip_by l n t e f = rw (e, f) refl

strip_words : (b : ℕ) (x : List ℕ) (n : ℕ) (t : Bool) → is_blank b ≡ true → words (cond t (take (suc n) (b ∷ x)) (b ∷ x)) ≡ words (cond t (take n x) x)
strip_words b x n true e = words_blank b (take n x) e
strip_words b x n false e = words_blank b x e

words_strip : (b : ℕ) (x : List ℕ) → is_blank b ≡ true → words (strip_carriage_return (b ∷ x)) ≡ words (strip_carriage_return x)
words_strip b [] e = ap words (strip_by (b ∷ []) 0 false refl (no_return b e)) ∙ words_blank b [] e
words_strip b (c ∷ cs) e =
    let t = eqb (get_or (c ∷ cs) (length cs) 0) 13 in
    ap words (strip_by (b ∷ c ∷ cs) (suc (length cs)) t (omega arith) refl) ∙ strip_words b (c ∷ cs) (length cs) t e ∙ ap words (sym (strip_by (c ∷ cs) (length cs) t (omega arith) refl))

place_after : (b : ℕ) (text : List ℕ) → is_blank b ≡ true → position_or_len is_newline (b ∷ text) ≡ 1 + position_or_len is_newline text
place_after b text e = ap (λ t. cond (not t) (1 + position_or_len is_newline text) 0) (no_newline b e)

found_or_none : (o : Option ℕ) → (o ≡ None) ⊎ ((e : ℕ) × (o ≡ Some e))
found_or_none None = inl refl
found_or_none (Some e) = inr (e, refl)

-- a blank before a text that is not empty says nothing
lines_blank : (b : ℕ) (text : List ℕ) → is_blank b ≡ true → 0 < length text → lines_of (b ∷ text) ≡ lines_of text
unfolding lines_of
lines_blank b text blank some =
    elim (found_or_none (position is_newline text)) [
      | inl none ↦ (
          let n : position is_newline (b ∷ text) ≡ None = none_at is_newline (b ∷ text) (place_after b text blank ∙ (let e = first_none is_newline text none in omega (arith, e))) in
          ap (map words) (last_line (b ∷ text) (omega arith) n) ∙ ap (λ w. w ∷ []) (words_blank b text blank) ∙ sym (ap (map words) (last_line text some none)))
      | inr found ↦ (
          let (e, at) = found in
          let h = first_at is_newline text e at in
          let n : position is_newline (b ∷ text) ≡ Some (e + 1) = some_at is_newline (b ∷ text) (e + 1) (place_after b text blank ∙ (let k = h.0 in omega (arith, k))) (omega (arith, h.1)) in
          ap (map words) (ended_line (b ∷ text) (e + 1) n)
          ∙ ap (λ m. words (strip_carriage_return (take m (b ∷ text))) ∷ map words (lines (drop (e + 1 + 1) (b ∷ text)))) (add-one e)
          ∙ ap (λ m. words (strip_carriage_return (b ∷ take e text)) ∷ map words (lines (drop m (b ∷ text)))) (add-one (e + 1))
          ∙ ap (λ w. w ∷ map words (lines (drop (e + 1) text))) (words_strip b (take e text) blank)
          ∙ sym (ap (map words) (ended_line text e at)))
    ]

-- neither do more blanks
pub lines_skip : (text : List ℕ) (k : ℕ) → k < length text → ((j : ℕ) → j < k → is_blank (get_or text j 0) ≡ true) → lines_of (drop k text) ≡ lines_of text
lines_skip text zero l all = refl
lines_skip [] (suc k) l all = absurd (omega arith)
lines_skip (b ∷ text) (suc k) l all =
    lines_skip text k (omega arith) (λ j h. all (suc j) (omega arith)) ∙ sym (lines_blank b text (all 0 (omega arith)) (omega arith))
