-- The lines between the first and the last of a text.
use Rattle.std.proofs.Common.{◌≡◌, ℕ, ◌+◌, ◌-◌, ◌<◌, ◌≤◌, List, [], ◌∷◌, ◌++◌, length, take, drop, get_or, sym, ap, ◌∙◌, arith, length-drop, drop-drop, max, inl, inr}
use Rattle.std.proofs.lemmas.List.{drop_all}
use Rattle.std.proofs.lemmas.Bool.{cases_lt}
use Rattle.std.proofs.lemmas.Int.{clamps}
use Rattle.std.specs.Str.Lines.{lines}
use Rattle.vg_scan.specs.Lines.{BeginsLine}
use Rattle.spef_file.specs.Indexes.{between}
use Rattle.spef_file.proofs.TextLemmas.{at_most, get_drop, lines_split, one_line, between_more}

-- up to the last line
inner_many : (text first : List ℕ) (from to : ℕ) → lines text ≡ first ∷ lines (drop from text) → from ≤ to → to < length text → BeginsLine text to
    → ((k : ℕ) → to ≤ k → k + 1 < length text → get_or text k 0 ≡ 10 → ⊥) → lines (take (to - from) (drop from text)) ≡ between (lines text)
inner_many text first from to e low high begins last =
    let rest = drop from text in
    let m = to - from in
    let d : drop m rest ≡ drop to text = drop-drop m from text ∙ ap (λ k. drop k text) (let x : from + m ≡ to = omega arith in x) in
    let one = one_line (drop to text) (omega (arith, length-drop to text)) (λ k l h. last (to + k) (omega arith) (omega (arith, length-drop to text)) (sym (get_drop text to k) ∙ h)) in
    let split : lines rest ≡ lines (take m rest) ++ one.line ∷ [] =
    lines_split m rest m (omega arith) (omega (arith, length-drop from text)) (λ some. get_drop text from (m - 1) ∙ ap (λ k. get_or text k 0) (let x : from + (m - 1) ≡ to - 1 = omega arith in x) ∙ begins (omega arith) high)
    ∙ ap (λ t. lines (take m rest) ++ lines t) d ∙ ap (λ ls. lines (take m rest) ++ ls) one.is in
    sym (between_more first one.line (lines (take m rest))) ∙ sym (ap between (e ∙ ap (λ ls. first ∷ ls) split))

-- where there is one line alone
inner_none : (text first : List ℕ) (from to : ℕ) → lines text ≡ first ∷ lines (drop from text) → to < from → from ≤ length text → BeginsLine text from
    → ((k : ℕ) → to ≤ k → k + 1 < length text → get_or text k 0 ≡ 10 → ⊥) → lines (take 0 (drop from text)) ≡ between (lines text)
inner_none text first from to e low high begins last =
    let all : length text ≤ from = at_most (length text) from (λ l. last (from - 1) (omega arith) (omega arith) (begins (omega arith) l)) in
    sym (ap between (e ∙ ap (λ t. first ∷ lines t) (drop_all from text all)))

pub inner_lines : (text first : List ℕ) (from to m : ℕ) → lines text ≡ first ∷ lines (drop from text) → from ≤ length text → BeginsLine text from → to < length text → BeginsLine text to
    → ((k : ℕ) → to ≤ k → k + 1 < length text → get_or text k 0 ≡ 10 → ⊥) → m ≡ max to from → lines (take (m - from) (drop from text)) ≡ between (lines text)
inner_lines text first from to m e high begins within there last is =
    elim (cases_lt to from) [
      | inl low ↦ ap (λ k. lines (take k (drop from text))) (let x : m - from ≡ 0 = omega (arith, clamps, is) in x) ∙ inner_none text first from to e low high begins last
      | inr low ↦ ap (λ k. lines (take k (drop from text))) (let x : m - from ≡ to - from = omega (arith, clamps, is) in x) ∙ inner_many text first from to e low within there last
    ]
