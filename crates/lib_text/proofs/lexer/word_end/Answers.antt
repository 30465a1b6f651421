use Rattle.std.proofs.Common.{◌+◌, drop, sym, ◌∙◌, arith}
use Rattle.std.specs.List.{prefix_len}
use Rattle.lib_text.specs.Tokens.{is_word_byte}
use Rattle.lib_text.proofs.RunLemmas.{run_more, run_over, run_end}
use Rattle.lib_text.proofs.lexer.word_end.Goals as goal

pub word-preserved : goal.word-preserved
word-preserved c = record {
  within = omega arith;
  place =
      run_more is_word_byte c.args.text.now c.word.end (c.args.at + prefix_len is_word_byte (drop c.args.at c.args.text.now)) (omega arith)
      (sym c.is_word_byte.ensures ∙ c.if-is_word_byte.true) c.word.invariant.place;
}

pub returns-else-is_word_byte-clause-place : goal.returns-else-is_word_byte-clause-place
returns-else-is_word_byte-clause-place c =
    run_over is_word_byte c.args.text.now c.word.end (c.args.at + prefix_len is_word_byte (drop c.args.at c.args.text.now)) (omega arith)
    (sym c.is_word_byte.ensures ∙ c.if-is_word_byte.false) c.word.invariant.place

pub returns-after-word-clause-place : goal.returns-after-word-clause-place
returns-after-word-clause-place c =
    run_end is_word_byte c.args.text.now c.word.end (c.args.at + prefix_len is_word_byte (drop c.args.at c.args.text.now)) (omega arith) c.word.invariant.place
