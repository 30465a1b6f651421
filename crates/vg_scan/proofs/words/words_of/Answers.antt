use Rattle.std.proofs.Common.{◌≡◌, ◌++◌, [], ◌≤◌, length, drop, arith, sym, ap, ◌∙◌}
use Rattle.std.proofs.lemmas.List.{append-nil, drop_all}
use Rattle.vg_scan.specs.Lines.{is_blank, is_ink, words}
use Rattle.vg_scan.specs.Spans.{part_at, words_at}
use Rattle.vg_scan.proofs.WordLemmas.{words_none}
use Rattle.vg_scan.proofs.FoundLemmas.{next_within, next_there, skipped, part_length, one_more}
use Rattle.vg_scan.proofs.words.words_of.Goals as goal

pub word-init : goal.word-init
word-init c =
    let text = part_at c.args.bytes.now c.args.line in
    let n = c.ink_from-from.result in
    record {
      found = ap (λ xs. words_at c.args.bytes.now xs ++ words (drop n text)) c.clear.ensures.items ∙ sym (skipped text 0 n c.ink_from-from.ensures);
      within = next_within is_ink text 0 n (omega arith) c.ink_from-from.ensures;
      ink = next_there is_ink text 0 n (omega arith) c.ink_from-from.ensures;
    }

pub overflow_add-line-in-word : goal.overflow_add-line-in-word
overflow_add-line-in-word c =
    let text = part_at c.args.bytes.now c.args.line in
    omega (arith, c.requires, part_length c.args.bytes.now c.args.line.from c.args.line.to c.requires.1, next_within is_blank text c.word.from c.blank_from-to.result c.word.invariant.within c.blank_from-to.ensures)

pub ink_from-from-requires-in-word : goal.ink_from-from-requires-in-word
ink_from-from-requires-in-word c = next_within is_blank (part_at c.args.bytes.now c.args.line) c.word.from c.blank_from-to.result c.word.invariant.within c.blank_from-to.ensures

pub word-preserved : goal.word-preserved
word-preserved c =
    let bytes = c.args.bytes.now in
    let line = c.args.line in
    let text = part_at bytes line in
    let from = c.word.from in
    let to = c.blank_from-to.result in
    let n = c.ink_from-from-in-word.result in
    let low : to ≤ length text = next_within is_blank text from to c.word.invariant.within c.blank_from-to.ensures in
    record {
      found =
          ap (λ xs. words_at bytes xs ++ words (drop n text)) c.in_ok-push.ensures.items
          ∙ one_more bytes line from to c.word.found.items n c.word-test.true (c.word.invariant.ink c.word-test.true) c.blank_from-to.ensures c.ink_from-from-in-word.ensures c.requires.1 low
          ∙ c.word.invariant.found;
      within = next_within is_ink text to n low c.ink_from-from-in-word.ensures;
      ink = next_there is_ink text to n low c.ink_from-from-in-word.ensures;
    }

pub returns : goal.returns
returns c =
    let text = part_at c.args.bytes.now c.args.line in
    let none : words (drop c.word.from text) ≡ [] = ap words (drop_all c.word.from text (omega (arith, c.word-test.false))) ∙ words_none in
    sym (append-nil (words_at c.args.bytes.now c.word.found.items)) ∙ ap (λ ws. words_at c.args.bytes.now c.word.found.items ++ ws) (sym none) ∙ c.word.invariant.found
