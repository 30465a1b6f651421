use Rattle.std.proofs.Common.{◌≡◌, ℕ, ◌+◌, ◌-◌, ◌≤◌, List, ◌∷◌, [], sym, length, take, drop, arith, ◌∙◌, ap, drop-drop, length-take, length-drop}
use Rattle.std.proofs.lemmas.List.{drop-take}
use Rattle.vg_scan.specs.Lines.{words, part, is_ink}
use Rattle.vg_scan.proofs.CutLemmas.{get_part, blank_in, part_take}
use Rattle.vg_scan.proofs.FoundLemmas.{part_inner}
use Rattle.vg_scan.proofs.lines.next_word.Goals as goal

part_drop : (bytes : List ℕ) (a b t : ℕ) → t ≤ b - a → drop t (part bytes a b) ≡ part bytes (a + t) b
part_drop bytes a b t h =
    let m : b - a ≡ t + (b - (a + t)) = omega arith in
    ap (λ n. drop t (take n (drop a bytes))) m ∙ drop-take t (b - (a + t)) (drop a bytes) ∙ ap (take (b - (a + t))) (drop-drop t a bytes)

pub returns-in-Some-clause-word : goal.returns-in-Some-clause-word
returns-in-Some-clause-word c =
    let bytes = c.args.bytes.now in
    let a = c.args.within.from in
    let b = c.args.within.to in
    let from = c.in-Some.from in
    let to = c.in-Some.to in
    let len : length (part bytes a b) ≡ b - a = simp (length-take, length-drop) (omega arith) in
    let h : to ≤ b - a = omega (arith, len, c.in-Some.ensures.place) in
    c.in-Some.ensures.word
    ∙ ap (λ x. x ∷ words (drop to (part bytes a b))) (part_inner bytes a b from to (omega (arith, c.in-Some.ensures.place)) h)
    ∙ ap (λ x. part bytes (a + from) (a + to) ∷ words x) (part_drop bytes a b to h)

pub returns-in-Some-clause-before : goal.returns-in-Some-clause-before
returns-in-Some-clause-before c = λ k low high.
    let bytes = c.args.bytes.now in
    let a = c.args.within.from in
    let b = c.args.within.to in
    let len : length (part bytes a b) ≡ b - a = simp (length-take, length-drop) (omega arith) in
    blank_in bytes a b c.in-Some.from k c.in-Some.ensures.before (omega (arith, len, c.in-Some.ensures.place)) low high

pub returns-in-Some-clause-alone : goal.returns-in-Some-clause-alone
returns-in-Some-clause-alone c =
    let bytes = c.args.bytes.now in
    let a = c.args.within.from in
    let b = c.args.within.to in
    let from = c.in-Some.from in
    let to = c.in-Some.to in
    let len : length (part bytes a b) ≡ b - a = simp (length-take, length-drop) (omega arith) in
    let h : to ≤ b - a = omega (arith, len, c.in-Some.ensures.place) in
    ap words (sym (part_take bytes a b to h))
    ∙ c.in-Some.ensures.alone
    ∙ ap (λ x. x ∷ []) (part_inner bytes a b from to (omega (arith, c.in-Some.ensures.place)) h)

pub returns-in-Some-clause-ink : goal.returns-in-Some-clause-ink
returns-in-Some-clause-ink c =
    let bytes = c.args.bytes.now in
    let a = c.args.within.from in
    let b = c.args.within.to in
    let len : length (part bytes a b) ≡ b - a = simp (length-take, length-drop) (omega arith) in
    ap is_ink (sym (get_part bytes a b c.in-Some.from (omega (arith, len, c.in-Some.ensures.place)))) ∙ c.in-Some.ensures.ink
