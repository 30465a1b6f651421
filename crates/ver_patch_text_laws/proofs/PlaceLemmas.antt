-- What a byte begins is the same whatever follows the place where it ends.
use Rattle.std.proofs.Common.{◌≡◌, ℕ, zero, suc, ◌+◌, ◌≤◌, Bool, true, false, cond, ◌&&◌, ◌==◌, List, [], ◌∷◌, ◌++◌, length, drop, None, refl, sym, ap, ◌∙◌, arith, length-append, if◌then◌else◌}
use Rattle.std.specs.List.{prefix_len}
use Rattle.std.proofs.lemmas.Bool.Decides.{nat_tests}
use Rattle.vg_num.specs.Number.{is_digit}
use Rattle.vg_scan.specs.Lines.{is_blank, is_newline}
use Rattle.ver_text.specs.declared.token.TokenKind.TheVariants.{Word, Escaped, Based, Mark, Stray}
use Rattle.ver_text.specs.Bytes.{is_letter, is_word_byte, is_printable, is_in_line, is_mark}
use Rattle.ver_text.specs.Tokens.{begins, token, passed, with_more, base_length, signed_length, based_length, number, number_before, unsized_before, escaped_before, before_close, enclosed, slash_before, bracket_before, directive_length, mark_before, piece}
use Rattle.ver_patch_text_laws.proofs.PieceLemmas.{IsStop, drop_within, run_same, run_stops_at, run_to}

-- ---- choices

same_if : {A : Type 0} (t : Bool) (p p' q q' : A) → (t ≡ true → p' ≡ p) → (t ≡ false → q' ≡ q) → cond t p' q' ≡ cond t p q
same_if true p p' q q' e f = e refl
same_if false p p' q q' e f = f refl

-- ---- what is passed over

close_same : (c : ℕ) (us ws ws' : List ℕ) → before_close c (us ++ ws) + 2 ≤ length us → before_close c (us ++ ws') ≡ before_close c (us ++ ws)
close_same c [] ws ws' h = absurd (omega (arith, h))
close_same c (u ∷ []) ws ws' h = absurd (omega (arith, h))
close_same c (u ∷ v ∷ us) ws ws' h =
    same_if ((u == 42) && (v == c)) 0 0 (suc (before_close c (v ∷ us ++ ws))) (suc (before_close c (v ∷ us ++ ws'))) (λ e. refl)
    (λ e. ap suc (close_same c (v ∷ us) ws ws' (let k : suc (before_close c (v ∷ us ++ ws)) + 2 ≤ length (u ∷ v ∷ us) = rw e at h in omega (arith, k))))

enclosed_same : (c : ℕ) (us vs vs' : List ℕ) (y y' : ℕ) → (enclosed c (us ++ y ∷ vs)).more ≤ 1 + length us → enclosed c (us ++ y' ∷ vs') ≡ enclosed c (us ++ y ∷ vs)
enclosed_same c us vs vs' y y' h = by_test (before_close c (us ++ y ∷ vs) == length (us ++ y ∷ vs)) refl
  where
    by_test : (t : Bool) → (before_close c (us ++ y ∷ vs) == length (us ++ y ∷ vs)) ≡ t → enclosed c (us ++ y' ∷ vs') ≡ enclosed c (us ++ y ∷ vs)
    by_test true e =
        let k : 1 + length (us ++ y ∷ vs) ≤ 1 + length us = rw e at h in
        absurd (omega (arith, k, length-append us (y ∷ vs)))
    by_test false e =
        let k : 3 + before_close c (us ++ y ∷ vs) ≤ 1 + length us = rw e at h in
        let same = close_same c us (y ∷ vs) (y' ∷ vs') (omega (arith, k)) in
        let long = length-append us (y' ∷ vs') in
        let f : (before_close c (us ++ y ∷ vs) == length (us ++ y' ∷ vs')) ≡ false = grind (arith, nat_tests) in
        rw (same, e, f) refl

begins_same : (c : ℕ) (us vs vs' : List ℕ) (y y' : ℕ) → (y == c) ≡ (y' == c) → begins c (us ++ y' ∷ vs') ≡ begins c (us ++ y ∷ vs)
begins_same c [] vs vs' y y' e = sym e
begins_same c (u ∷ us) vs vs' y y' e = refl

-- a directive that ends before a byte
pub directive_same : (us vs vs' : List ℕ) (y y' : ℕ) → is_blank y ≡ false → is_blank y' ≡ false → (y == 96) ≡ false → (y' == 96) ≡ false
    → is_in_line y ≡ is_in_line y' → directive_length (us ++ y ∷ vs) ≤ length us → directive_length (us ++ y' ∷ vs') ≡ directive_length (us ++ y ∷ vs)
directive_same us vs vs' y y' a a' b b' c h =
    let n = prefix_len is_blank (us ++ y ∷ vs) in
    let same : prefix_len is_blank (us ++ y' ∷ vs') ≡ n = run_to is_blank us vs vs' y y' a a' in
    let low : n ≤ length us = run_stops_at is_blank us vs y a in
    let one : drop n (us ++ y ∷ vs) ≡ drop n us ++ y ∷ vs = drop_within n us (y ∷ vs) low in
    let two : drop n (us ++ y' ∷ vs') ≡ drop n us ++ y' ∷ vs' = drop_within n us (y' ∷ vs') low in
    let both : begins 96 (drop (prefix_len is_blank (us ++ y' ∷ vs')) (us ++ y' ∷ vs')) ≡ begins 96 (drop n (us ++ y ∷ vs))
    = ap (λ (k : ℕ). begins 96 (drop k (us ++ y' ∷ vs'))) same ∙ ap (begins 96) two ∙ begins_same 96 (drop n us) vs vs' y y' (b ∙ sym b')
    ∙ ap (begins 96) (sym one) in
    ap (λ t. cond t (prefix_len is_in_line (us ++ y' ∷ vs')) 0) both
    ∙ same_if (begins 96 (drop n (us ++ y ∷ vs))) (prefix_len is_in_line (us ++ y ∷ vs)) (prefix_len is_in_line (us ++ y' ∷ vs')) 0 0
    (λ e. run_same is_in_line us vs vs' y y' c (rw e at h)) (λ e. refl)

-- ---- numbers

module _ (y : ℕ) (s : IsStop y) (vs vs' : List ℕ) where
  base_same : (us : List ℕ) → base_length (us ++ y ∷ vs') ≡ base_length (us ++ y ∷ vs)
  base_same [] = s.based vs' ∙ sym (s.based vs)
  base_same (u ∷ us) = ap (with_more 1) (s.digits u us vs vs')

  signed_same : (us : List ℕ) → signed_length (us ++ y ∷ vs') ≡ signed_length (us ++ y ∷ vs)
  signed_same [] = rw s.sign (base_same [])
  signed_same (u ∷ us) =
      same_if (u == 115) (with_more 1 (base_length (us ++ y ∷ vs))) (with_more 1 (base_length (us ++ y ∷ vs')))
      (base_length (u ∷ us ++ y ∷ vs)) (base_length (u ∷ us ++ y ∷ vs')) (λ e. ap (with_more 1) (base_same us)) (λ e. base_same (u ∷ us))

  based_same : (us : List ℕ) → based_length (us ++ y ∷ vs') ≡ based_length (us ++ y ∷ vs)
  based_same [] = rw s.quote refl
  based_same (u ∷ us) =
      same_if (u == 39) (with_more 1 (signed_length (us ++ y ∷ vs))) (with_more 1 (signed_length (us ++ y ∷ vs'))) 0 0
      (λ e. ap (with_more 1) (signed_same us)) (λ e. refl)

  number_same : (us : List ℕ) → number_before (us ++ y ∷ vs') ≡ number_before (us ++ y ∷ vs)
  number_same us =
      let n = prefix_len is_digit (us ++ y ∷ vs) in
      let low : n ≤ length us = run_stops_at is_digit us vs y s.digit in
      let same : prefix_len is_digit (us ++ y ∷ vs') ≡ n = run_to is_digit us vs vs' y y s.digit s.digit in
      let one : drop n (us ++ y ∷ vs) ≡ drop n us ++ y ∷ vs = drop_within n us (y ∷ vs) low in
      let two : drop n (us ++ y ∷ vs') ≡ drop n us ++ y ∷ vs' = drop_within n us (y ∷ vs') low in
      ap (λ (k : ℕ). number k (based_length (drop k (us ++ y ∷ vs')))) same
      ∙ ap (λ (bs : List ℕ). number n (based_length bs)) two
      ∙ ap (number n) (based_same (drop n us))
      ∙ ap (λ (bs : List ℕ). number n (based_length bs)) (sym one)

-- ---- a piece before a byte that stops it

printed_within : (n k : ℕ) → (if n == 0 then token Stray 0 else token Escaped n).more ≤ k → n ≤ k
printed_within zero k h = omega arith
printed_within (suc n) k h = let e : (suc n == 0) ≡ false = grind (arith, nat_tests) in rw e at h

module _ (y : ℕ) (s : IsStop y) (vs vs' : List ℕ) where
  bracket_same : (us : List ℕ) → (bracket_before (us ++ y ∷ vs)).more ≤ length us → bracket_before (us ++ y ∷ vs') ≡ bracket_before (us ++ y ∷ vs)
  bracket_same [] h = rw s.star refl
  bracket_same (u ∷ us) h =
      same_if (u == 42) (enclosed 41 (us ++ y ∷ vs)) (enclosed 41 (us ++ y ∷ vs')) (token (Mark 40) 0) (token (Mark 40) 0)
      (λ e. enclosed_same 41 us vs vs' y y (let k : (enclosed 41 (us ++ y ∷ vs)).more ≤ length (u ∷ us) = rw e at h in omega (arith, k))) (λ e. refl)

  slash_same : (us : List ℕ) → (slash_before (us ++ y ∷ vs)).more ≤ length us → slash_before (us ++ y ∷ vs') ≡ slash_before (us ++ y ∷ vs)
  slash_same [] h = rw (s.slash, s.star) refl
  slash_same (u ∷ us) h =
      same_if (u == 47) _ _ _ _ (λ e. ap passed (run_same is_in_line (u ∷ us) vs vs' y y refl (rw e at h)))
      (λ e. same_if (u == 42) (enclosed 47 (us ++ y ∷ vs)) (enclosed 47 (us ++ y ∷ vs')) (token Stray 0) (token Stray 0)
      (λ f. enclosed_same 47 us vs vs' y y (let k : (enclosed 47 (us ++ y ∷ vs)).more ≤ length (u ∷ us) = rw (e, f) at h in omega (arith, k))) (λ f. refl))

  escaped_same : (us : List ℕ) → (escaped_before (us ++ y ∷ vs)).more ≤ length us → escaped_before (us ++ y ∷ vs') ≡ escaped_before (us ++ y ∷ vs)
  escaped_same us h =
      ap (λ (n : ℕ). if n == 0 then token Stray 0 else token Escaped n)
      (run_same is_printable us vs vs' y y refl (printed_within (prefix_len is_printable (us ++ y ∷ vs)) (length us) h))

  unsized_same : (us : List ℕ) → unsized_before (us ++ y ∷ vs') ≡ unsized_before (us ++ y ∷ vs)
  unsized_same us = ap (λ (n : ℕ). if n == 0 then token Stray 0 else token Based n) (signed_same y s vs vs' us)

  mark_same : (b : ℕ) (us : List ℕ) → (mark_before b (us ++ y ∷ vs)).more ≤ length us → mark_before b (us ++ y ∷ vs') ≡ mark_before b (us ++ y ∷ vs)
  mark_same b us h =
      same_if (b == 40) _ _ _ _ (λ e. bracket_same us (rw e at h))
      (λ e. same_if (is_mark b) _ _ _ _ (λ f. refl)
      (λ f. same_if (b == 92) _ _ _ _ (λ g. escaped_same us (let d = rw e at f in rw (e, d, g) at h))
      (λ g. same_if (b == 47) _ _ _ _ (λ i. slash_same us (let d = rw e at f in rw (e, d, g, i) at h))
      (λ i. same_if (b == 39) _ _ _ _ (λ j. unsized_same us)
      (λ j. ap (λ t. if (b == 13) && t then passed 0 else token Stray 0) (begins_same 10 us vs vs' y y refl))))))

  -- a piece that ends before such a byte is the same whatever follows the byte
  pub piece_same : (b : ℕ) (us : List ℕ) → (piece b (us ++ y ∷ vs)).more ≤ length us → piece b (us ++ y ∷ vs') ≡ piece b (us ++ y ∷ vs)
  piece_same b us h =
      same_if (is_blank b) _ _ _ _ (λ e. refl)
      (λ e. same_if (is_letter b) _ _ _ _ (λ f. ap (token Word) (run_to is_word_byte us vs vs' y y s.word s.word))
      (λ f. same_if (is_digit b) _ _ _ _ (λ g. number_same y s vs vs' us)
      (λ g. same_if (is_newline b) _ _ _ _
      (λ i. ap passed (directive_same us vs vs' y y s.blank s.blank s.tick s.tick refl (rw (e, f, g, i) at h)))
      (λ i. mark_same b us (rw (e, f, g, i) at h)))))

-- ---- what is passed over before a name

-- a byte with which a name may begin
pub record BeginsName (y : ℕ) : Type 0 where
  pub blank : is_blank y ≡ false
  pub in_line : is_in_line y ≡ true
  pub star : (y == 42) ≡ false
  pub slash : (y == 47) ≡ false
  pub tick : (y == 96) ≡ false
  pub feed : (y == 10) ≡ false

pub letter_begins : (y : ℕ) → is_letter y ≡ true → BeginsName y
letter_begins y e = record {
  blank = grind (arith, nat_tests);
  in_line = grind (arith, nat_tests);
  star = grind (arith, nat_tests);
  slash = grind (arith, nat_tests);
  tick = grind (arith, nat_tests);
  feed = grind (arith, nat_tests);
}

pub backslash_begins : BeginsName 92
backslash_begins = record { blank = refl; in_line = refl; star = refl; slash = refl; tick = refl; feed = refl }

-- a number is a token
pub number_some : (digits based : ℕ) → (number digits based).kind ≡ None → ⊥
number_some digits zero e = absurd (cc)
number_some digits (suc n) e = let f : (suc n == 0) ≡ false = grind (arith, nat_tests) in let g = rw f at e in absurd (cc)

printed_some : (n : ℕ) → (if n == 0 then token Stray 0 else token Escaped n).kind ≡ None → ⊥
printed_some zero e = absurd (cc)
printed_some (suc n) e = let f : (suc n == 0) ≡ false = grind (arith, nat_tests) in let g = rw f at e in absurd (cc)

unsized_some : (n : ℕ) → (if n == 0 then token Stray 0 else token Based n).kind ≡ None → ⊥
unsized_some zero e = absurd (cc)
unsized_some (suc n) e = let f : (suc n == 0) ≡ false = grind (arith, nat_tests) in let g = rw f at e in absurd (cc)

module _ (y y' : ℕ) (s : BeginsName y) (s' : BeginsName y') (vs vs' : List ℕ) where
  pub bracket_kept : (us : List ℕ) → (bracket_before (us ++ y ∷ vs)).more ≤ length us
      → bracket_before (us ++ y' ∷ vs') ≡ bracket_before (us ++ y ∷ vs)
  bracket_kept [] h = rw (s.star, s'.star) refl
  bracket_kept (u ∷ us) h =
      same_if (u == 42) (enclosed 41 (us ++ y ∷ vs)) (enclosed 41 (us ++ y' ∷ vs')) (token (Mark 40) 0) (token (Mark 40) 0)
      (λ e. enclosed_same 41 us vs vs' y y' (let k : (enclosed 41 (us ++ y ∷ vs)).more ≤ length (u ∷ us) = rw e at h in omega (arith, k))) (λ e. refl)

  slash_kept : (us : List ℕ) → (slash_before (us ++ y ∷ vs)).more ≤ length us → slash_before (us ++ y' ∷ vs') ≡ slash_before (us ++ y ∷ vs)
  slash_kept [] h = rw (s.slash, s.star, s'.slash, s'.star) refl
  slash_kept (u ∷ us) h =
      same_if (u == 47) _ _ _ _ (λ e. ap passed (run_same is_in_line (u ∷ us) vs vs' y y' (s.in_line ∙ sym s'.in_line) (rw e at h)))
      (λ e. same_if (u == 42) (enclosed 47 (us ++ y ∷ vs)) (enclosed 47 (us ++ y' ∷ vs')) (token Stray 0) (token Stray 0)
      (λ f. enclosed_same 47 us vs vs' y y' (let k : (enclosed 47 (us ++ y ∷ vs)).more ≤ length (u ∷ us) = rw (e, f) at h in omega (arith, k))) (λ f. refl))

  mark_kept : (b : ℕ) (us : List ℕ) → (mark_before b (us ++ y ∷ vs)).kind ≡ None → (mark_before b (us ++ y ∷ vs)).more ≤ length us
      → mark_before b (us ++ y' ∷ vs') ≡ mark_before b (us ++ y ∷ vs)
  mark_kept b us k h =
      same_if (b == 40) _ _ _ _ (λ e. bracket_kept us (rw e at h))
      (λ e. same_if (is_mark b) _ _ _ _ (λ f. refl)
      (λ f. let d = rw e at f in
      same_if (b == 92) _ _ _ _ (λ g. absurd (printed_some (prefix_len is_printable (us ++ y ∷ vs)) (rw (e, d, g) at k)))
      (λ g. same_if (b == 47) _ _ _ _ (λ i. slash_kept us (rw (e, d, g, i) at h))
      (λ i. same_if (b == 39) _ _ _ _ (λ j. absurd (unsized_some (signed_length (us ++ y ∷ vs)) (rw (e, d, g, i, j) at k)))
      (λ j. ap (λ t. if (b == 13) && t then passed 0 else token Stray 0) (begins_same 10 us vs vs' y y' (s.feed ∙ sym s'.feed)))))))

  -- what is passed over before a name is passed over before any other name
  pub piece_kept : (b : ℕ) (us : List ℕ) → (piece b (us ++ y ∷ vs)).kind ≡ None → (piece b (us ++ y ∷ vs)).more ≤ length us
      → piece b (us ++ y' ∷ vs') ≡ piece b (us ++ y ∷ vs)
  piece_kept b us k h =
      same_if (is_blank b) _ _ _ _ (λ e. refl)
      (λ e. same_if (is_letter b) _ _ _ _ (λ f. absurd (let g = rw (e, f) at k in cc))
      (λ f. same_if (is_digit b) _ _ _ _
      (λ g. absurd (number_some (prefix_len is_digit (us ++ y ∷ vs)) (based_length (drop (prefix_len is_digit (us ++ y ∷ vs)) (us ++ y ∷ vs))) (rw (e, f, g) at k)))
      (λ g. same_if (is_newline b) _ _ _ _
      (λ i. ap passed (directive_same us vs vs' y y' s.blank s'.blank s.tick s'.tick (s.in_line ∙ sym s'.in_line) (rw (e, f, g, i) at h)))
      (λ i. mark_kept b us (rw (e, f, g, i) at k) (rw (e, f, g, i) at h)))))
