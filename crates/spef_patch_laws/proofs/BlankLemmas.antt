-- The lines of a text with blanks before it.
use Rattle.std.proofs.Common.{◌≡◌, ℕ, zero, suc, ◌+◌, ◌-◌, ◌<◌, ◌≤◌, ◌⊎◌, inl, inr, true, false, cond, not, List, [], ◌∷◌, length, take, drop, get_or, map, refl, sym, ap, ◌∙◌, arith, Option, Some, None, length-drop, drop-drop}
use Rattle.std.proofs.lemmas.Bool.Decides.{nat_tests}
use Rattle.std.specs.List.{position, position_or_len}
use Rattle.std.specs.Str.Lines.{lines, strip_carriage_return}
use Rattle.vg_scan.specs.Lines.{words, lines_of, is_blank, is_newline}
use Rattle.vg_scan.proofs.BlankLemmas.{lines_skip}
use Rattle.vg_scan.proofs.CutLemmas.{some_at, none_at}
use Rattle.vg_scan.proofs.LineLemmas.{first_at, first_none, ended_line, last_line}

no_newline : (b : ℕ) → is_blank b ≡ true → is_newline b ≡ false
no_newline b e = grind (arith, nat_tests)

pub found_or_none : (o : Option ℕ) → (o ≡ None) ⊎ ((e : ℕ) × (o ≡ Some e))
found_or_none None = inl refl
found_or_none (Some e) = inr (e, refl)

place_behind : (text : List ℕ) (k : ℕ) → k ≤ length text → ((j : ℕ) → j < k → is_blank (get_or text j 0) ≡ true)
    → position_or_len is_newline text ≡ k + position_or_len is_newline (drop k text)
place_behind text zero l all = omega arith
place_behind [] (suc k) l all = absurd (omega arith)
place_behind (b ∷ text) (suc k) l all =
    let rest = place_behind text k (omega arith) (λ j h. all (suc j) (omega arith)) in
    ap (λ t. cond (not t) (1 + position_or_len is_newline text) 0) (no_newline b (all 0 (omega arith))) ∙ omega (arith, rest)

-- a text has the lines that it has without blanks before it, but the first, which has the same words
pub record HasBlanks (text : List ℕ) (k : ℕ) : Type 0 where
  pub first : List ℕ
  pub bare : List ℕ
  pub rest : List (List ℕ)
  pub whole : lines text ≡ first ∷ rest
  pub behind : lines (drop k text) ≡ bare ∷ rest
  pub same : words first ≡ words bare

same_words : (text : List ℕ) (k : ℕ) (first bare : List ℕ) (rest : List (List ℕ)) → lines_of (drop k text) ≡ lines_of text → lines text ≡ first ∷ rest → lines (drop k text) ≡ bare ∷ rest
    → words first ≡ words bare
unfolding lines_of
same_words text k first bare rest e f g = ap (λ ls. get_or ls 0 []) (sym (ap (map words) f) ∙ sym e ∙ ap (map words) g)

pub has_blanks : (text : List ℕ) (k : ℕ) → k < length text → ((j : ℕ) → j < k → is_blank (get_or text j 0) ≡ true) → HasBlanks text k
has_blanks text k l all =
    let at = place_behind text k (omega arith) all in
    let skip = lines_skip text k l all in
    elim (found_or_none (position is_newline text)) as (λ _. HasBlanks text k) [
      | inl nowhere ↦ (
          let n : position is_newline (drop k text) ≡ None = none_at is_newline (drop k text) (let e = first_none is_newline text nowhere in omega (arith, e, at, length-drop k text)) in
          let f : lines text ≡ text ∷ [] = last_line text (omega arith) nowhere in
          let g : lines (drop k text) ≡ drop k text ∷ [] = last_line (drop k text) (omega (arith, length-drop k text)) n in
          record { first = text; bare = drop k text; rest = []; whole = f; behind = g; same = same_words text k text (drop k text) [] skip f g })
      | inr found ↦ (
          let e = found.0 in
          let h = first_at is_newline text e found.1 in
          let m = e - k in
          let there : position is_newline (drop k text) ≡ Some m = some_at is_newline (drop k text) m (let z = h.0 in omega (arith, z, at)) (let z = h.0 in omega (arith, z, h.1, at, length-drop k text)) in
          let f : lines text ≡ strip_carriage_return (take e text) ∷ lines (drop (e + 1) text) = ended_line text e found.1 in
          let d : drop (m + 1) (drop k text) ≡ drop (e + 1) text = drop-drop (m + 1) k text ∙ ap (λ n. drop n text) (let z : k + (m + 1) ≡ e + 1 = (let y = h.0 in omega (arith, y, at)) in z) in
          let g : lines (drop k text) ≡ strip_carriage_return (take m (drop k text)) ∷ lines (drop (e + 1) text) =
          ended_line (drop k text) m there ∙ ap (λ t. strip_carriage_return (take m (drop k text)) ∷ lines t) d in
          record {
            first = strip_carriage_return (take e text);
            bare = strip_carriage_return (take m (drop k text));
            rest = lines (drop (e + 1) text);
            whole = f;
            behind = g;
            same = same_words text k (strip_carriage_return (take e text)) (strip_carriage_return (take m (drop k text))) (lines (drop (e + 1) text)) skip f g;
          })
    ]
