use Rattle.std.proofs.Common.{rules, drop, sym, ◌∙◌, arith}
use Rattle.vg_scan.specs.Lines.{lines_of}
use Rattle.vg_width.proofs.TextLemmas.{taken_more, row_faulty, all_taken}
use Rattle.vg_width.proofs.read.read_rows.Goals as goal

pub returns-in-Err-clause-fault : goal.returns-in-Err-clause-fault
returns-in-Err-clause-fault c =
    let text = c.args.bytes.now in
    row_faulty (lines_of text) (lines_of (drop c.args.start text)) (lines_of (drop c.in-Some.next text)) _ c.line.rows.items _ c.in-Err.kind c.requires.headed
    (sym c.line.invariant.rest ∙ c.in-Some.ensures.words) c.line.invariant.taken c.in-Err.ensures (omega (arith, c.len-number.ensures))

pub line-preserved : goal.line-preserved
line-preserved c =
    let text = c.args.bytes.now in
    let next = taken_more (lines_of (drop c.args.start text)) (lines_of (drop c.in-Some.next text)) _ c.line.rows.items c.take_line.new.rows.items
    (sym c.line.invariant.rest ∙ c.in-Some.ensures.words) c.line.invariant.taken c.in-Ok.ensures in
    record {
      rest = sym next.0;
      within = omega (arith, c.in-Some.ensures.place);
      taken = next.1;
    }

pub returns-clause-widths : goal.returns-clause-widths
returns-clause-widths c =
    let text = c.args.bytes.now in
    all_taken (lines_of text) (lines_of (drop c.args.start text)) c.line.rows.items c.requires.headed
    (sym c.line.invariant.rest ∙ c.in_default.ensures.words) c.line.invariant.taken (search rules)
