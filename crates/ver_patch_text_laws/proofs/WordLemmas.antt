-- The words of tokens, and the first bytes of marks and names.
use Rattle.std.proofs.lemmas.List.{map-append}
use Rattle.std.proofs.Common.{◌≡◌, ℕ, zero, suc, ◌+◌, ◌-◌, Bool, true, false, ◌&&◌, ◌==◌, List, [], ◌∷◌, ◌++◌, length, map, take, drop, Option, Some, None, refl, sym, ap, ◌∙◌, subst, arith, length-append, append_assoc, if◌then◌else◌, ◌⊎◌, inl, inr}
use Rattle.std.specs.Prelude.{⊤}
use Rattle.std.proofs.lemmas.Bool.Decides.{nat_tests}
use Rattle.std.proofs.Math.Seq.{drop-append_seam}
use Rattle.vg_num.specs.Number.{is_digit}
use Rattle.vg_scan.specs.Lines.{is_blank, is_newline, part}
use Rattle.ver_text.specs.declared.token.TokenKind.{TokenKind}
use Rattle.ver_text.specs.declared.token.TokenKind.TheVariants.{Word as AWord, Escaped, Digits, Based, Mark, Stray, Unclosed}
use Rattle.ver_text.specs.Bytes.{is_letter, is_printable, is_mark}
use Rattle.ver_text.specs.Kinds.{grammar_kind}
use Rattle.ver_text.specs.Tokens.{begins, token, number, before_close, enclosed, directive_length, piece, signed_length, based_length, token_at, token_of, tokens_from}
use Rattle.std.specs.List.{prefix_len}
use Rattle.ver_patch_text_laws.specs.Words.{word_in, words_of}
use Rattle.ver_patch_text_laws.proofs.ScanLemmas.{tokens_in, word_by, words_from, words_in}

-- ---- words of tokens

part_here : (pre bs : List ℕ) (at n to : ℕ) → at ≡ length pre → to ≡ at + n → part (pre ++ bs) at to ≡ take n bs
part_here pre bs at n to e f =
    let count : to - at ≡ n = omega (arith, f) in
    ap (λ (k : ℕ). take k (drop at (pre ++ bs))) count ∙ ap (λ (k : ℕ). take n (drop k (pre ++ bs))) e ∙ ap (take n) (drop-append_seam pre bs)

word_here : (pre bs : List ℕ) (at n to : ℕ) (kind : Option TokenKind) → at ≡ length pre → to ≡ at + n
    → map (word_in (pre ++ bs)) (token_of kind at to) ≡ word_by kind (take n bs)
word_here pre bs at n to None e f = refl
word_here pre bs at n to (Some kind) e f = let p = part_here pre bs at n to e f in λ i. record { kind = grammar_kind kind (p i); bytes = p i } ∷ []

pub words_are : (bs pre : List ℕ) (skip at : ℕ) → at ≡ length pre → map (word_in (pre ++ bs)) (tokens_from skip at bs) ≡ words_from skip bs
unfolding tokens_from words_from
words_are [] pre skip at e = refl
words_are (b ∷ bs) pre (suc skip) at e =
    ap (λ (xs : List ℕ). map (word_in xs) (tokens_from skip (at + 1) bs)) (sym (append_assoc pre (b ∷ []) bs))
    ∙ words_are bs (pre ++ b ∷ []) skip (at + 1) (omega (arith, e, length-append pre (b ∷ [])))
words_are (b ∷ bs) pre zero at e =
    let n = (piece b bs).more in
    map-append (word_in (pre ++ b ∷ bs)) (token_at at (piece b bs)) (tokens_from n (at + 1) bs)
    ∙ ap (λ ws. ws ++ map (word_in (pre ++ b ∷ bs)) (tokens_from n (at + 1) bs))
    (word_here pre (b ∷ bs) at (1 + n) (at + 1 + n) (piece b bs).kind e (omega arith))
    ∙ ap (λ ws. word_by (piece b bs).kind (take (1 + n) (b ∷ bs)) ++ ws)
    (ap (λ (xs : List ℕ). map (word_in xs) (tokens_from n (at + 1) bs)) (sym (append_assoc pre (b ∷ []) bs))
    ∙ words_are bs (pre ++ b ∷ []) n (at + 1) (omega (arith, e, length-append pre (b ∷ []))))

pub words_in_are : (us vs pre : List ℕ) (skip at : ℕ) → at ≡ length pre → map (word_in (pre ++ (us ++ vs))) (tokens_in skip at us vs) ≡ words_in skip us vs
unfolding tokens_in words_in
words_in_are [] vs pre skip at e = refl
words_in_are (b ∷ us) vs pre (suc skip) at e =
    ap (λ (xs : List ℕ). map (word_in xs) (tokens_in skip (at + 1) us vs)) (sym (append_assoc pre (b ∷ []) (us ++ vs)))
    ∙ words_in_are us vs (pre ++ b ∷ []) skip (at + 1) (omega (arith, e, length-append pre (b ∷ [])))
words_in_are (b ∷ us) vs pre zero at e =
    let n = (piece b (us ++ vs)).more in
    map-append (word_in (pre ++ b ∷ (us ++ vs))) (token_at at (piece b (us ++ vs))) (tokens_in n (at + 1) us vs)
    ∙ ap (λ ws. ws ++ map (word_in (pre ++ b ∷ (us ++ vs))) (tokens_in n (at + 1) us vs))
    (word_here pre (b ∷ (us ++ vs)) at (1 + n) (at + 1 + n) (piece b (us ++ vs)).kind e (omega arith))
    ∙ ap (λ ws. word_by (piece b (us ++ vs)).kind (take (1 + n) (b ∷ (us ++ vs))) ++ ws)
    (ap (λ (xs : List ℕ). map (word_in xs) (tokens_in n (at + 1) us vs)) (sym (append_assoc pre (b ∷ []) (us ++ vs)))
    ∙ words_in_are us vs (pre ++ b ∷ []) n (at + 1) (omega (arith, e, length-append pre (b ∷ []))))

pub words_of_are : (text : List ℕ) → words_of text ≡ words_from (directive_length text) text
words_of_are text = words_are text [] (directive_length text) 0 refl

-- ---- first bytes

cases : {R : Type 0} (t : Bool) → (t ≡ true → R) → (t ≡ false → R) → R
cases true f g = f refl
cases false f g = g refl

number_kinds : (kind : TokenKind) (digits based : ℕ) → (number digits based).kind ≡ Some kind → (kind ≡ Digits) × (based ≡ 0) ⊎ (kind ≡ Based)
number_kinds kind digits zero e = let f : kind ≡ Digits = cc in inl (f, refl)
number_kinds kind digits (suc n) e =
    let z : (suc n == 0) ≡ false = grind (arith, nat_tests) in
    let h = rw z at e in
    let f : kind ≡ Based = cc in
    inr f

stray_or : (n : ℕ) (kind given : TokenKind) → (if n == 0 then token Stray 0 else token given n).kind ≡ Some kind → (kind ≡ Stray) ⊎ (kind ≡ given)
stray_or zero kind given e = let f : kind ≡ Stray = cc in inl f
stray_or (suc n) kind given e =
    let z : (suc n == 0) ≡ false = grind (arith, nat_tests) in
    let h = rw z at e in
    let f : kind ≡ given = cc in
    inr f

enclosed_kind : (c : ℕ) (bs : List ℕ) (kind : TokenKind) → (enclosed c bs).kind ≡ Some kind → kind ≡ Unclosed
enclosed_kind c bs kind e =
    cases (before_close c bs == length bs) (λ t. let h = rw t at e in let f : kind ≡ Unclosed = cc in f) (λ t. let h = rw t at e in absurd (cc))

-- what the first byte of a token is, by its kind
abbrev pub IsFirstOf : ℕ → List ℕ → TokenKind → Type 0
IsFirstOf b bs AWord = is_letter b ≡ true
IsFirstOf b bs Escaped = b ≡ 92
IsFirstOf b bs Digits = is_digit b ≡ true
IsFirstOf b bs Based = ⊤
IsFirstOf b bs (Mark m) = (b ≡ m) × ((piece b bs).more ≡ 0) × (is_mark b ≡ true)
IsFirstOf b bs Stray = ⊤
IsFirstOf b bs Unclosed = ⊤

at_kind : (b : ℕ) (bs : List ℕ) (given kind : TokenKind) → kind ≡ given → IsFirstOf b bs given → IsFirstOf b bs kind
at_kind b bs given kind e h = subst (IsFirstOf b bs) (sym e) h

is_number : (b c : ℕ) → (b == c) ≡ true → b ≡ c
is_number b c e = grind (arith, nat_tests)

module _ (b : ℕ) (bs : List ℕ) (kind : TokenKind) where
  first_of_bracket : (b == 40) ≡ true → (begins 42 bs ≡ false → (piece b bs).more ≡ 0)
      → (if begins 42 bs then enclosed 41 (drop 1 bs) else token (Mark 40) 0).kind ≡ Some kind → IsFirstOf b bs kind
  first_of_bracket e none k =
      cases (begins 42 bs)
      (λ t. at_kind b bs Unclosed kind (enclosed_kind 41 (drop 1 bs) kind (rw t at k)) tt)
      (λ t. let h = rw t at k in let f : kind ≡ Mark 40 = cc in
      let g : is_mark b ≡ true = rw e refl in
      at_kind b bs (Mark 40) kind f (is_number b 40 e, none t, g))

  pub first_byte : (piece b bs).kind ≡ Some kind → IsFirstOf b bs kind
  first_byte k =
      cases (is_blank b) (λ e. let h = rw e at k in absurd (cc))
      (λ e. cases (is_letter b) (λ f. let h = rw (e, f) at k in let g : kind ≡ AWord = cc in at_kind b bs AWord kind g f)
      (λ f. cases (is_digit b)
      (λ g. elim (number_kinds kind (prefix_len is_digit bs) (based_length (drop (prefix_len is_digit bs) bs)) (rw (e, f, g) at k))
      [ inl h ↦ at_kind b bs Digits kind h.0 g | inr h ↦ at_kind b bs Based kind h tt ])
      (λ g. cases (is_newline b) (λ i. let h = rw (e, f, g, i) at k in absurd (cc))
      (λ i. cases (b == 40) (λ j. first_of_bracket j (λ t. rw (e, f, g, i, j, t) refl) (rw (e, f, g, i, j) at k))
      (λ j. cases (is_mark b)
      (λ l. let h = rw (e, f, g, i, j) at k in let m = rw j at l in let n = rw m at h in let o : kind ≡ Mark b = cc in
      at_kind b bs (Mark b) kind o (refl, rw (e, f, g, i, j, m) refl, l))
      (λ l. let m = rw j at l in
      cases (b == 92) (λ q. elim (stray_or (prefix_len is_printable bs) kind Escaped (rw (e, f, g, i, j, m, q) at k))
      [ inl h ↦ at_kind b bs Stray kind h tt | inr h ↦ at_kind b bs Escaped kind h (is_number b 92 q) ])
      (λ q. cases (b == 47)
      (λ r. cases (begins 47 bs) (λ s. let h = rw (e, f, g, i, j, m, q, r, s) at k in absurd (cc))
      (λ s. cases (begins 42 bs)
      (λ t. at_kind b bs Unclosed kind (enclosed_kind 47 (drop 1 bs) kind (rw (e, f, g, i, j, m, q, r, s, t) at k)) tt)
      (λ t. let h = rw (e, f, g, i, j, m, q, r, s, t) at k in let o : kind ≡ Stray = cc in at_kind b bs Stray kind o tt)))
      (λ r. cases (b == 39) (λ s. elim (stray_or (signed_length bs) kind Based (rw (e, f, g, i, j, m, q, r, s) at k))
      [ inl h ↦ at_kind b bs Stray kind h tt | inr h ↦ at_kind b bs Based kind h tt ])
      (λ s. cases ((b == 13) && begins 10 bs) (λ t. let h = rw (e, f, g, i, j, m, q, r, s, t) at k in absurd (cc))
      (λ t. let h = rw (e, f, g, i, j, m, q, r, s, t) at k in let o : kind ≡ Stray = cc in at_kind b bs Stray kind o tt))))))))))
