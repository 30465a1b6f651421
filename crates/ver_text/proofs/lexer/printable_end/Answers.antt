use Rattle.std.proofs.Common.{◌∙◌, sym, arith}
use Rattle.ver_text.specs.Bytes.{is_printable}
use Rattle.ver_text.proofs.LaneLemmas.{ends_in, goes_past}
use Rattle.ver_text.proofs.lexer.printable_end.Goals as goal

pub returns-then-run-lt-LANES-clause-run : goal.returns-then-run-lt-LANES-clause-run
returns-then-run-lt-LANES-clause-run c =
    ends_in is_printable c.args.text.now c.load.end c.printable_lanes-run.result (omega arith) c.printable_lanes-run.ensures c.if-run-lt-LANES.true
    ∙ sym c.load.invariant.place

pub load-preserved : goal.load-preserved
load-preserved c =
    let e = goes_past is_printable c.args.text.now c.load.end c.printable_lanes-run.result (omega arith) c.printable_lanes-run.ensures c.if-run-lt-LANES.false in
    record {
      within = omega arith;
      place = omega (arith, e, c.load.invariant.place);
    }
