use Rattle.std.proofs.Common.{◌≡◌, ℕ, ◌+◌, ◌-◌, List, [], ◌∷◌, length, take, drop, arith, sym, ◌∙◌, ap, take_all, length-drop, refl}
use Rattle.std.proofs.lemmas.List.{drop_all}
use Rattle.std.specs.List.{position}
use Rattle.vg_scan.specs.Lines.{is_blank, is_ink, words}
use Rattle.vg_scan.proofs.WordLemmas.{all_blank, not_all_blank, no_word, word_none, word_some, words_none}
use Rattle.vg_scan.proofs.LineLemmas.{first_none, first_at}
use Rattle.std.proofs.lemmas.List.Quantifiers.{position-Some}
use Rattle.vg_scan.proofs.CutLemmas.{blank_before, word_alone}
use Rattle.vg_scan.proofs.lines.word_in.Goals as goal

pub returns-in-None-clause-word : goal.returns-in-None-clause-word
returns-in-None-clause-word c = no_word c.args.line.now (sym c.ink_at.ensures ∙ c.in-None.is)

rest_of : (line : List ℕ) (from : ℕ) → take (length line - from) (drop from line) ≡ drop from line
rest_of line from = take_all (length line - from) (drop from line) (omega (arith, length-drop from line))

part_of : (line : List ℕ) (from n : ℕ) → take (from + n - from) (drop from line) ≡ take n (drop from line)
part_of line from n = ap (λ k. take k (drop from line)) (omega arith)

pub returns-in-None-blank_at-clause-word : goal.returns-in-None-blank_at-clause-word
returns-in-None-blank_at-clause-word c =
    let line = c.args.line.now in
    let from = c.in-Some.from in
    let f = ap (position is_blank) (sym (rest_of line from)) ∙ sym c.blank_at.ensures ∙ c.in-None-blank_at.is in
    let w = word_none line from (sym c.ink_at.ensures ∙ c.in-Some.is) f in
    let d = drop_all (length line) line (omega arith) in
    w
    ∙ ap (λ x. x ∷ []) (sym (rest_of line from))
    ∙ ap (λ ws. take (length line - from) (drop from line) ∷ ws) (sym (ap words d ∙ words_none))

pub returns-in-Some-blank_at-clause-word : goal.returns-in-Some-blank_at-clause-word
returns-in-Some-blank_at-clause-word c =
    let line = c.args.line.now in
    let from = c.in-Some.from in
    let n = c.in-Some-blank_at.len in
    let f = ap (position is_blank) (sym (rest_of line from)) ∙ sym c.blank_at.ensures ∙ c.in-Some-blank_at.is in
    let w = word_some line from n (sym c.ink_at.ensures ∙ c.in-Some.is) f in
    w.0 ∙ ap (λ x. x ∷ words (drop (from + n) line)) (sym (part_of line from n))

pub returns-in-Some-blank_at-clause-place : goal.returns-in-Some-blank_at-clause-place
returns-in-Some-blank_at-clause-place c =
    let line = c.args.line.now in
    let from = c.in-Some.from in
    let n = c.in-Some-blank_at.len in
    let f = ap (position is_blank) (sym (rest_of line from)) ∙ sym c.blank_at.ensures ∙ c.in-Some-blank_at.is in
    let w = word_some line from n (sym c.ink_at.ensures ∙ c.in-Some.is) f in
    (omega (arith, w.1), omega (arith, w.2))

pub returns-in-None-clause-blank : goal.returns-in-None-clause-blank
returns-in-None-clause-blank c =
    (λ _. all_blank c.args.line.now (first_none is_ink c.args.line.now (sym c.ink_at.ensures ∙ c.in-None.is)), λ _. refl)

pub returns-in-None-blank_at-clause-blank : goal.returns-in-None-blank_at-clause-blank
returns-in-None-blank_at-clause-blank c =
    (λ e. absurd (cc), λ all. absurd (not_all_blank c.args.line.now c.in-Some.from (sym c.ink_at.ensures ∙ c.in-Some.is) all))

pub returns-in-Some-blank_at-clause-blank : goal.returns-in-Some-blank_at-clause-blank
returns-in-Some-blank_at-clause-blank c =
    (λ e. absurd (cc), λ all. absurd (not_all_blank c.args.line.now c.in-Some.from (sym c.ink_at.ensures ∙ c.in-Some.is) all))

pub returns-in-None-blank_at-clause-before : goal.returns-in-None-blank_at-clause-before
returns-in-None-blank_at-clause-before c = λ k l. blank_before c.args.line.now c.in-Some.from k (sym c.ink_at.ensures ∙ c.in-Some.is) l

pub returns-in-Some-blank_at-clause-before : goal.returns-in-Some-blank_at-clause-before
returns-in-Some-blank_at-clause-before c = λ k l. blank_before c.args.line.now c.in-Some.from k (sym c.ink_at.ensures ∙ c.in-Some.is) l

pub returns-in-None-blank_at-clause-alone : goal.returns-in-None-blank_at-clause-alone
returns-in-None-blank_at-clause-alone c =
    let line = c.args.line.now in
    let from = c.in-Some.from in
    let f = ap (position is_blank) (sym (rest_of line from)) ∙ sym c.blank_at.ensures ∙ c.in-None-blank_at.is in
    ap words (take_all (length line) line (omega arith)) ∙ word_none line from (sym c.ink_at.ensures ∙ c.in-Some.is) f ∙ ap (λ x. x ∷ []) (sym (rest_of line from))

pub returns-in-Some-blank_at-clause-alone : goal.returns-in-Some-blank_at-clause-alone
returns-in-Some-blank_at-clause-alone c =
    let line = c.args.line.now in
    let from = c.in-Some.from in
    let n = c.in-Some-blank_at.len in
    let e = sym c.ink_at.ensures ∙ c.in-Some.is in
    let f = ap (position is_blank) (sym (rest_of line from)) ∙ sym c.blank_at.ensures ∙ c.in-Some-blank_at.is in
    let w = word_some line from n e f in
    word_alone line from n e w.1 w.2 (omega (arith, first_at is_blank (drop from line) n f)) ∙ ap (λ x. x ∷ []) (sym (part_of line from n))

pub returns-in-None-blank_at-clause-ink : goal.returns-in-None-blank_at-clause-ink
returns-in-None-blank_at-clause-ink c = (position-Some is_ink c.args.line.now c.in-Some.from 0 (sym c.ink_at.ensures ∙ c.in-Some.is)).1

pub returns-in-Some-blank_at-clause-ink : goal.returns-in-Some-blank_at-clause-ink
returns-in-Some-blank_at-clause-ink c = (position-Some is_ink c.args.line.now c.in-Some.from 0 (sym c.ink_at.ensures ∙ c.in-Some.is)).1
