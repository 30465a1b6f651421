-- The last line of a text, and its last word.
use Rattle.std.proofs.Common.{◌≡◌, ℕ, zero, suc, ◌+◌, ◌-◌, ◌<◌, ◌≤◌, inl, inr, Bool, true, false, eqb, List, [], ◌∷◌, length, take, drop, get_or, refl, sym, ap, ◌∙◌, arith, length-drop}
use Rattle.std.specs.List.{position}
use Rattle.vg_scan.specs.Lines.{words, is_blank, is_ink}
use Rattle.vg_scan.proofs.ClearedLemmas.{eq_of, ne_of_false}
use Rattle.vg_scan.proofs.LineLemmas.{first_at, first_none}
use Rattle.vg_scan.proofs.WordLemmas.{word_some, word_none, no_word, all_blank}
use Rattle.vg_scan.proofs.CutLemmas.{blank_before}
use Rattle.spef_file.proofs.TextLemmas.{get_drop}
use Rattle.spef_patch_laws.proofs.BlankLemmas.{found_or_none}

-- where the last line of a text begins, which may end with a newline
pub record LastLine (text : List ℕ) : Type 0 where
  pub at : ℕ
  pub within : at < length text
  pub begins : 0 < at → get_or text (at - 1) 0 ≡ 10
  pub alone : (k : ℕ) → at ≤ k → k + 1 < length text → get_or text k 0 ≡ 10 → ⊥

last_from : (b : ℕ) (text : List ℕ) (at : ℕ) (t : Bool) → eqb b 10 ≡ t → at < length text → (0 < at → get_or text (at - 1) 0 ≡ 10)
    → ((k : ℕ) → at ≤ k → k + 1 < length text → get_or text k 0 ≡ 10 → ⊥) → LastLine (b ∷ text)
last_from b text (suc at) t e l begins alone = record {
  at = suc (suc at);
  within = omega arith;
  begins = λ some. ap (λ n. get_or (b ∷ text) n 0) (let x : suc (suc at) - 1 ≡ suc (suc at - 1) = omega arith in x) ∙ begins (omega arith);
  alone = alone_more;
}
  where
    alone_more : (k : ℕ) → suc (suc at) ≤ k → k + 1 < suc (length text) → get_or (b ∷ text) k 0 ≡ 10 → ⊥
    alone_more zero low high ten = absurd (omega arith)
    alone_more (suc k) low high ten = alone k (omega arith) (omega arith) ten
last_from b text zero true e l begins alone = record {
  at = 1;
  within = omega arith;
  begins = λ some. eq_of b 10 e;
  alone = alone_more;
}
  where
    alone_more : (k : ℕ) → 1 ≤ k → k + 1 < suc (length text) → get_or (b ∷ text) k 0 ≡ 10 → ⊥
    alone_more zero low high ten = absurd (omega arith)
    alone_more (suc k) low high ten = alone k (omega arith) (omega arith) ten
last_from b text zero false e l begins alone = record {
  at = 0;
  within = omega arith;
  begins = λ some. absurd (omega arith);
  alone = alone_more;
}
  where
    alone_more : (k : ℕ) → 0 ≤ k → k + 1 < suc (length text) → get_or (b ∷ text) k 0 ≡ 10 → ⊥
    alone_more zero low high ten = ne_of_false b 10 e ten
    alone_more (suc k) low high ten = alone k (omega arith) (omega arith) ten

pub last_line_of : (text : List ℕ) → 0 < length text → LastLine text
last_line_of [] some = absurd (omega arith)
last_line_of (b ∷ []) some = record { at = 0; within = omega arith; begins = λ l. absurd (omega arith); alone = λ k low high. absurd (omega arith) }
last_line_of (b ∷ c ∷ text) some =
    let h = last_line_of (c ∷ text) (omega arith) in
    last_from b (c ∷ text) h.at (eqb b 10) refl h.within h.begins h.alone

-- ---- words

-- a text that ends with no blank has words
words_there : (text : List ℕ) → 0 < length text → is_blank (get_or text (length text - 1) 0) ≡ false → words text ≡ [] → ⊥
words_there text some last e = elim (found_or_none (position is_ink text)) [
  | inl none ↦ (let b : is_blank (get_or text (length text - 1) 0) ≡ true = all_blank text (first_none is_ink text none) (length text - 1) 0 (omega arith) in cc)
  | inr (from, at) ↦ elim (found_or_none (position is_blank (drop from text))) [
    | inl none ↦ (let w : drop from text ∷ [] ≡ [] = sym (word_none text from at none) ∙ e in cc)
    | inr (n, there) ↦ (let w : take n (drop from text) ∷ words (drop (from + n) text) ≡ [] = sym (word_some text from n at there).0 ∙ e in cc)
  ]
]

-- a text of one word that ends with it
pub record IsWordAtEnd (text word : List ℕ) : Type 0 where
  pub at : ℕ
  pub blank : (k : ℕ) → k < at → is_blank (get_or text k 0) ≡ true
  pub is : drop at text ≡ word

rest_of : (w x : List ℕ) (ws : List (List ℕ)) → x ∷ ws ≡ w ∷ [] → (x ≡ w) × (ws ≡ [])
rest_of w x ws e = (ap (λ l. get_or l 0 []) e, ap (drop 1) e)

pub word_at_end : (text word : List ℕ) → words text ≡ word ∷ [] → is_blank (get_or text (length text - 1) 0) ≡ false → IsWordAtEnd text word
word_at_end text word e last = elim (found_or_none (position is_ink text)) as (λ _. IsWordAtEnd text word) [
  | inl none ↦ absurd (let w : [] ≡ word ∷ [] = sym (no_word text none) ∙ e in cc)
  | inr (from, at) ↦ elim (found_or_none (position is_blank (drop from text))) as (λ _. IsWordAtEnd text word) [
    | inl none ↦ record { at = from; blank = λ k l. blank_before text from k at l; is = (rest_of word (drop from text) [] (sym (word_none text from at none) ∙ e)).0 }
    | inr (n, there) ↦ absurd (
        let w = word_some text from n at there in
        let h = first_at is_blank (drop from text) n there in
        let len = length-drop from text in
        let rest = drop (from + n) text in
        let long = length-drop (from + n) text in
        let some : from + n < length text = omega (arith, h.1, len) in
        let same : get_or rest (length rest - 1) 0 ≡ get_or text (length text - 1) 0 =
        get_drop text (from + n) (length rest - 1) ∙ ap (λ k. get_or text k 0) (let x : from + n + (length rest - 1) ≡ length text - 1 = omega (arith, long, some) in x) in
        words_there rest (omega (arith, long, some)) (ap is_blank same ∙ last) (rest_of word (take n (drop from text)) (words rest) (sym w.0 ∙ e)).1)
  ]
]
