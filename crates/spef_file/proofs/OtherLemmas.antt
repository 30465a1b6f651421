-- A line whose first byte is neither a blank nor a star.
use Rattle.std.proofs.Common.{◌≡◌, ℕ, ◌+◌, ◌-◌, ◌<◌, ◌≤◌, true, false, suc, eqb, List, ◌∷◌, length, take, drop, get_or, filter, refl, ap, ◌∙◌, arith, add-one}
use Rattle.std.specs.Prelude.{nat_lt}
use Rattle.std.specs.List.{slice_split, onto_first}
use Rattle.std.proofs.lemmas.Bool.Decides.{nat_tests}
use Rattle.vg_scan.specs.Lines.{Line, words, is_blank, part}
use Rattle.vg_scan.proofs.LineLemmas.{parts_cons}
use Rattle.vg_scan.proofs.ClearedLemmas.{one}
use Rattle.spef_file.specs.Nets.{is_end, is_head}

ne_test : (a b : ℕ) → (a ≡ b → ⊥) → eqb a b ≡ false
ne_test a b e = grind (arith, nat_tests)

some_bytes : (n : ℕ) → nat_lt 0 (suc n) ≡ true
some_bytes n = grind (arith, nat_tests)

kept : (b : ℕ) (x : List ℕ) (more : List (List ℕ)) → filter (λ w. nat_lt 0 (length w)) ((b ∷ x) ∷ more) ≡ (b ∷ x) ∷ filter (λ w. nat_lt 0 (length w)) more
kept b x more = rw (some_bytes (length x)) refl

split_of : (b : ℕ) (bs : List ℕ) → is_blank b ≡ false → slice_split is_blank (b ∷ bs) ≡ onto_first b (slice_split is_blank bs)
split_of b bs e = rw e refl

-- its first word begins with that byte
first_word_is : (b : ℕ) (bs : List ℕ) → is_blank b ≡ false → (x : List ℕ) × (more : Line) × (words (b ∷ bs) ≡ (b ∷ x) ∷ more)
unfolding words
first_word_is b bs e =
    let (x, more, split) = parts_cons is_blank bs in (
      x,
      filter (λ w. nat_lt 0 (length w)) more,
      ap (filter (λ w. nat_lt 0 (length w))) (split_of b bs e ∙ ap (onto_first b) split) ∙ kept b x more,
    )

neither : (b : ℕ) (x : List ℕ) (more : Line) → (b ≡ 42 → ⊥) → (is_end ((b ∷ x) ∷ more) ≡ false) × (is_head ((b ∷ x) ∷ more) ≡ false)
neither b x more n = let t = ne_test b 42 n in (rw t refl, rw t refl)

otherwise : (b : ℕ) (bs : List ℕ) → is_blank b ≡ false → (b ≡ 42 → ⊥) → (is_end (words (b ∷ bs)) ≡ false) × (is_head (words (b ∷ bs)) ≡ false)
otherwise b bs e n =
    let (x, more, is) = first_word_is b bs e in
    let h = neither b x more n in
    (ap is_end is ∙ h.0, ap is_head is ∙ h.1)

part_cons : (bytes : List ℕ) (from to : ℕ) → from < to → to ≤ length bytes → part bytes from to ≡ get_or bytes from 0 ∷ take (to - (from + 1)) (drop (from + 1) bytes)
part_cons bytes from to l h =
    ap (take (to - from)) (one bytes from (omega arith))
    ∙ ap (λ n. take n (get_or bytes from 0 ∷ drop (from + 1) bytes)) (let e : to - from ≡ (to - (from + 1)) + 1 = omega arith in e ∙ add-one (to - (from + 1)))

no_blank : (b : ℕ) → (b ≡ 32 → ⊥) → (b ≡ 9 → ⊥) → is_blank b ≡ false
no_blank b m n = grind (arith, nat_tests)

pub begins_other : (bytes : List ℕ) (from to : ℕ) → from < to → to ≤ length bytes → (get_or bytes from 0 ≡ 42 → ⊥) → (get_or bytes from 0 ≡ 32 → ⊥) → (get_or bytes from 0 ≡ 9 → ⊥) → (is_end (words (part bytes from to)) ≡ false) × (is_head (words (part bytes from to)) ≡ false)
begins_other bytes from to l h star space tab =
    let e = part_cons bytes from to l h in
    let o = otherwise (get_or bytes from 0) (take (to - (from + 1)) (drop (from + 1) bytes)) (no_blank _ space tab) star in
    (ap (λ line. is_end (words line)) e ∙ o.0, ap (λ line. is_head (words line)) e ∙ o.1)
