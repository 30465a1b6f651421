use Rattle.std.proofs.Common.{sym, ◌∙◌, ap, drop, arith, ◌<◌, ◌≡◌, ◌+◌, take, append_assoc, ◌++◌, ◌∷◌, [], Some}
use Rattle.std.specs.Prelude.{codes, unwrap_or}
use Rattle.vg_scan.specs.Lines.{lines_of, words, part}
use Rattle.vg_scan.specs.Spans.{part_at}
use Rattle.spef_file.specs.Nets.{end_at}
use Rattle.spef_file.proofs.EndLemmas.{ends_here, ends_later, later_by, later_more, drop_more, take_next}
use Rattle.spef_file.proofs.net_end.find_end.Goals as goal

pub returns-in-End-clause-rest : goal.returns-in-End-clause-rest
returns-in-End-clause-rest c =
    let text = c.args.bytes.now in
    drop_more c.line.lines (lines_of (drop c.args.from text)) (words (part_at text c.in-Some.line)) (lines_of (drop c.in-Some.next text)) (sym c.in-Some.ensures.words ∙ c.line.invariant.rest)

pub line-preserved : goal.line-preserved
line-preserved c =
    let text = c.args.bytes.now in
    let line = words (part_at text c.in-Some.line) in
    let later = lines_of (drop c.in-Some.next text) in
    record {
      ends = c.line.invariant.ends ∙ ap (later_by c.line.lines) (ap end_at c.in-Some.ensures.words ∙ ends_later line later c.in-Inner.ensures.0.0 c.in-Inner.ensures.0.1) ∙ later_more c.line.lines (end_at later);
      rest = drop_more c.line.lines (lines_of (drop c.args.from text)) line later (sym c.in-Some.ensures.words ∙ c.line.invariant.rest);
      parts = λ m l. c.line.invariant.parts m (omega (arith, c.in-Some.ensures.place))
          ∙ ap (λ xs. take c.line.lines (lines_of (drop c.args.from text)) ++ xs) (c.in-Some.ensures.cut m l)
          ∙ sym (append_assoc (take c.line.lines (lines_of (drop c.args.from text))) (line ∷ []) (lines_of (part text c.in-Some.next m)))
          ∙ ap (λ xs. xs ++ lines_of (part text c.in-Some.next m)) (sym (take_next c.line.lines (lines_of (drop c.args.from text)) line later (sym c.in-Some.ensures.words ∙ c.line.invariant.rest)));
      within = omega (arith, c.in-Some.ensures.place);
      counted = omega (arith, c.in-Some.ensures.place);
    }

pub returns-in-End-clause-span : goal.returns-in-End-clause-span
returns-in-End-clause-span c =
    let text = c.args.bytes.now in
    let line = words (part_at text c.in-Some.line) in
    let ls = lines_of (drop c.args.from text) in
    let e : end_at ls ≡ Some c.line.lines = c.line.invariant.ends ∙ ap (later_by c.line.lines) (ap end_at c.in-Some.ensures.words ∙ ends_here line (lines_of (drop c.in-Some.next text)) c.in-End.ensures.0) ∙ (let z : c.line.lines + 0 ≡ c.line.lines = omega arith in ap Some z) in
    let low : c.line.at < c.in-End.to = omega (arith, c.in-End.ensures.1.2, c.in-Some.ensures.place) in
    let alone = ap (λ from. words (part text from c.in-End.to)) (sym c.in-Some.ensures.place.0) ∙ c.in-End.ensures.1.0 in
    c.line.invariant.parts c.in-End.to (omega arith)
    ∙ ap (λ xs. take c.line.lines ls ++ xs) (c.in-Some.ensures.last c.in-End.to low c.in-End.ensures.1.3 ∙ ap (λ x. x ∷ []) alone)
    ∙ ap (λ o. take (unwrap_or o 0) ls ++ (codes "*END" ∷ []) ∷ []) (sym e)
