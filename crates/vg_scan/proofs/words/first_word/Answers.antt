use Rattle.std.proofs.Common.{◌≡◌, ◌≤◌, ◌<◌, ◌-◌, ◌∷◌, length, take, drop, take_all, length-drop, arith, sym, ap, ◌∙◌}
use Rattle.vg_scan.specs.Lines.{is_blank, words, part}
use Rattle.vg_scan.proofs.FoundLemmas.{next_within, none_from, some_from}
use Rattle.vg_scan.proofs.words.first_word.Goals as goal

pub returns-then-from-line : goal.returns-then-from-line
returns-then-from-line c = none_from c.args.line.now c.ink_from-from.result c.ink_from-from.ensures c.if-from-line.true

pub slice_bounds-result-end : goal.slice_bounds-result-end
slice_bounds-result-end c =
    let start : c.ink_from-from.result ≤ length c.args.line.now = omega (arith, c.if-from-line.false) in
    let bound = next_within is_blank c.args.line.now c.ink_from-from.result c.blank_from-to.result start c.blank_from-to.ensures in
    omega (arith, bound)

pub returns : goal.returns
returns c =
    let line = c.args.line.now in
    let to = c.blank_from-to.result in
    let within : c.ink_from-from.result < length line = omega (arith, c.if-from-line.false) in
    let rest : take (length line - to) (drop to line) ≡ drop to line = take_all (length line - to) (drop to line) (omega (arith, length-drop to line)) in
    some_from line c.ink_from-from.result to c.ink_from-from.ensures within c.blank_from-to.ensures
    ∙ ap (λ r. part line c.ink_from-from.result to ∷ words r) (sym rest)
