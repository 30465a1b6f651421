use Rattle.std.proofs.Common.{◌+◌, drop, sym, ◌∙◌, arith}
use Rattle.std.specs.List.{prefix_len}
use Rattle.vg_scan.specs.Lines.{is_blank}
use Rattle.lib_text.proofs.RunLemmas.{run_more, run_over, run_end}
use Rattle.lib_text.proofs.lexer.blank_end.Goals as goal

pub blank-preserved : goal.blank-preserved
blank-preserved c = record {
  within = omega arith;
  place =
      run_more is_blank c.args.text.now c.blank.end (c.args.at + prefix_len is_blank (drop c.args.at c.args.text.now)) (omega arith)
      (sym c.is_blank.ensures ∙ c.if-is_blank.true) c.blank.invariant.place;
}

pub returns-else-is_blank-clause-place : goal.returns-else-is_blank-clause-place
returns-else-is_blank-clause-place c =
    run_over is_blank c.args.text.now c.blank.end (c.args.at + prefix_len is_blank (drop c.args.at c.args.text.now)) (omega arith)
    (sym c.is_blank.ensures ∙ c.if-is_blank.false) c.blank.invariant.place

pub returns-after-blank-clause-place : goal.returns-after-blank-clause-place
returns-after-blank-clause-place c =
    run_end is_blank c.args.text.now c.blank.end (c.args.at + prefix_len is_blank (drop c.args.at c.args.text.now)) (omega arith) c.blank.invariant.place
