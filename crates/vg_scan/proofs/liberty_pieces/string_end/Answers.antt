use Rattle.std.proofs.Common.{◌+◌, drop, false, sym, ◌∙◌, arith}
use Rattle.vg_scan.specs.LibertyComments.{through_string_in}
use Rattle.vg_scan.proofs.LibertyLemmas.{string_over, string_more, string_end, all_after}
use Rattle.vg_scan.proofs.liberty_pieces.string_end.Goals as goal

pub returns-then-ends_string-clause-place : goal.returns-then-ends_string-clause-place
returns-then-ends_string-clause-place c =
    string_over c.string.continued c.args.text.now c.string.end (c.args.at + through_string_in false (drop c.args.at c.args.text.now)) (omega arith)
    (sym c.ends_string.ensures ∙ c.if-ends_string.true) c.string.invariant.place

pub string-preserved : goal.string-preserved
string-preserved c = record {
  within = omega arith;
  place =
      rw (c.continues-continued.ensures, all_after c.args.text.now (c.string.end + 1))
      (string_more c.string.continued c.args.text.now c.string.end (c.args.at + through_string_in false (drop c.args.at c.args.text.now)) (omega arith)
      (sym c.ends_string.ensures ∙ c.if-ends_string.false) c.string.invariant.place);
}

pub returns-clause-place : goal.returns-clause-place
returns-clause-place c =
    string_end c.string.continued c.args.text.now c.string.end (c.args.at + through_string_in false (drop c.args.at c.args.text.now)) (omega arith) c.string.invariant.place
