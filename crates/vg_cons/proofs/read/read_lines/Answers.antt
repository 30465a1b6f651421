use Rattle.std.proofs.Common.{◌≡◌, ◌+◌, List, [], take, drop, length, max, sym, ◌∙◌, ap, refl, arith, inl, inr, subst, is_some}
use Rattle.std.specs.List.{list_any}
use Rattle.vg_scan.specs.Spans.{part_at}
use Rattle.vg_scan.proofs.FaultLemmas.{clear_more}
use Rattle.vg_scan.proofs.ItemLemmas.{next_is, all_read, take_whole}
use Rattle.vg_cons.specs.Lines.{Line, lines_of, has_words}
use Rattle.vg_cons.specs.Rows.{Rows, rows_of}
use Rattle.vg_cons.specs.Faults.{fault_of, fault_at}
use Rattle.vg_cons.specs.Views.{IsFaultOrMemory}
use Rattle.vg_cons.proofs.LineLemmas.{line_words, lines_first, lines_none, first_cons_fault, started_more, rows_more, fault_of-after, no_rows_yet}
use Rattle.vg_cons.proofs.read.read_lines.Goals as goal

pub line-init : goal.line-init
line-init c = record {
  rest = refl;
  within = omega arith;
  counted = omega arith;
  few = omega arith;
  started = ap (λ (rows : Rows). is_some rows.format) c.requires.none;
  clear = λ i h. absurd (omega arith);
  rows = c.requires.none ∙ no_rows_yet;
}

pub returns-in-Err-clause-fault : goal.returns-in-Err-clause-fault
returns-in-Err-clause-fault c =
    let text = c.args.bytes.now in
    let all = lines_of text in
    let n = c.line.count in
    let line : Line = line_words (part_at text c.in-Some.line) in
    let more = drop c.in-Some.next text in
    let x = next_is all n [] line (lines_of more) (sym c.line.invariant.rest ∙ lines_first (drop c.line.at text) more (part_at text c.in-Some.line) c.in-Some.ensures.line) in
    let same = fault_of-after (take n all) line c.line.cons c.line.invariant.rows in
    elim (first_cons_fault all n line c.in-Err.kind x.within x.here c.line.invariant.clear (subst (λ o. IsFaultOrMemory o c.in-Err.kind) (sym same) c.in-Err.ensures)) [
      | inl memory ↦ inl memory
      | inr fault ↦ inr (inl fault)
    ]

pub line-preserved : goal.line-preserved
line-preserved c =
    let text = c.args.bytes.now in
    let all = lines_of text in
    let n = c.line.count in
    let line : Line = line_words (part_at text c.in-Some.line) in
    let before : List Line = take n all in
    let more = drop c.in-Some.next text in
    let x = next_is all n [] line (lines_of more) (sym c.line.invariant.rest ∙ lines_first (drop c.line.at text) more (part_at text c.in-Some.line) c.in-Some.ensures.line) in
    let same = fault_of-after before line c.line.cons c.line.invariant.rows in
    record {
      rest = sym x.rest;
      within = omega (arith, c.in-Some.ensures.place);
      counted = omega (arith, c.in-Some.ensures.place);
      few = omega (arith, x.within);
      started = started_more before line (take (n + 1) all) c.line.cons c.take_line.new.cons x.front c.line.invariant.started c.in-Ok.ensures.0 c.in-Ok.ensures.1;
      clear = clear_more (fault_at all) n c.line.invariant.clear (ap (fault_of before) x.here ∙ same ∙ c.in-Ok.ensures.0);
      rows = rows_more before line (take (n + 1) all) c.line.cons c.take_line.new.cons x.front c.line.invariant.rows c.in-Ok.ensures.1;
    }

pub returns-then-is_none-clause-fault : goal.returns-then-is_none-clause-fault
returns-then-is_none-clause-fault c =
    let all = lines_of c.args.bytes.now in
    let end = sym c.line.invariant.rest ∙ lines_none (drop c.line.at c.args.bytes.now) c.in_default.ensures.line in
    let same : c.line.count ≡ length all = omega (arith, all_read all c.line.count end) in
    inr (inr (record {
      empty = ap (list_any has_words) (sym (take_whole all c.line.count end)) ∙ sym c.line.invariant.started ∙ ap is_some (sym c.format.ensures) ∙ c.if-is_none.ensures;
      kind = refl;
      last = c.max.ensures ∙ ap (λ m. max m 1) same;
    }))

pub returns-clause-faultless : goal.returns-clause-faultless
returns-clause-faultless c =
    let all = lines_of c.args.bytes.now in
    let end = sym c.line.invariant.rest ∙ lines_none (drop c.line.at c.args.bytes.now) c.in_default.ensures.line in
    record {
      clear = λ i h. c.line.invariant.clear i (omega (arith, all_read all c.line.count end));
      heading = ap (list_any has_words) (sym (take_whole all c.line.count end)) ∙ sym c.line.invariant.started ∙ ap is_some (sym c.format.ensures) ∙ c.if-is_none.ensures;
    }

pub returns-clause-rows : goal.returns-clause-rows
returns-clause-rows c =
    let end = sym c.line.invariant.rest ∙ lines_none (drop c.line.at c.args.bytes.now) c.in_default.ensures.line in
    c.line.invariant.rows ∙ ap rows_of (take_whole (lines_of c.args.bytes.now) c.line.count end)
