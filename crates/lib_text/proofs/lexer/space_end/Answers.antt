use Rattle.std.proofs.Common.{◌+◌, drop, sym, ◌∙◌, arith}
use Rattle.std.specs.List.{prefix_len}
use Rattle.lib_text.specs.Tokens.{is_space}
use Rattle.lib_text.proofs.RunLemmas.{run_more, run_over, run_end}
use Rattle.lib_text.proofs.lexer.space_end.Goals as goal

pub space-preserved : goal.space-preserved
space-preserved c = record {
  within = omega arith;
  place =
      run_more is_space c.args.text.now c.space.end (c.args.at + prefix_len is_space (drop c.args.at c.args.text.now)) (omega arith)
      (sym c.is_space.ensures ∙ c.if-is_space.true) c.space.invariant.place;
}

pub returns-else-is_space-clause-place : goal.returns-else-is_space-clause-place
returns-else-is_space-clause-place c =
    run_over is_space c.args.text.now c.space.end (c.args.at + prefix_len is_space (drop c.args.at c.args.text.now)) (omega arith)
    (sym c.is_space.ensures ∙ c.if-is_space.false) c.space.invariant.place

pub returns-after-space-clause-place : goal.returns-after-space-clause-place
returns-after-space-clause-place c =
    run_end is_space c.args.text.now c.space.end (c.args.at + prefix_len is_space (drop c.args.at c.args.text.now)) (omega arith) c.space.invariant.place
