use Rattle.std.proofs.Common.{◌+◌, drop, sym, ◌∙◌, arith}
use Rattle.lib_text.specs.declared.quoting.Quoting.TheVariants.{Outside}
use Rattle.lib_text.specs.Tokens.{ends, end_of}
use Rattle.lib_text.proofs.RunLemmas.{until_more, until_over, until_end, sound_more, sound_over, sound_end, and_more, and_true}
use Rattle.lib_text.proofs.lexer.content_end.Goals as goal

pub content-preserved : goal.content-preserved
content-preserved c = record {
  within = omega arith;
  place =
      rw c.after-quoting.ensures
      (until_more (ends c.args.content) c.content.quoting c.args.text.now c.content.end (c.args.at + end_of c.args.content Outside (drop c.args.at c.args.text.now)) (omega arith)
      (sym c.ends.ensures ∙ c.if-not-ends.true) c.content.invariant.place);
  clean =
      rw (c.after-quoting.ensures, c.stays_sound-sound.ensures)
      (and_more c.content.sound _ _ c.content.invariant.clean (sound_more c.args.content c.content.quoting c.args.text.now c.content.end (omega arith) (sym c.ends.ensures ∙ c.if-not-ends.true)));
}

pub returns-else-not-ends-clause-place : goal.returns-else-not-ends-clause-place
returns-else-not-ends-clause-place c =
    until_over (ends c.args.content) c.content.quoting c.args.text.now c.content.end (c.args.at + end_of c.args.content Outside (drop c.args.at c.args.text.now)) (omega arith)
    (sym c.ends.ensures ∙ c.if-not-ends.false) c.content.invariant.place

pub returns-else-not-ends-clause-sound : goal.returns-else-not-ends-clause-sound
returns-else-not-ends-clause-sound c =
    and_true c.content.sound c.content.invariant.clean (sound_over c.args.content c.content.quoting c.args.text.now c.content.end (omega arith) (sym c.ends.ensures ∙ c.if-not-ends.false))

pub returns-after-content-clause-place : goal.returns-after-content-clause-place
returns-after-content-clause-place c =
    until_end (ends c.args.content) c.content.quoting c.args.text.now c.content.end (c.args.at + end_of c.args.content Outside (drop c.args.at c.args.text.now)) (omega arith) c.content.invariant.place

pub returns-after-content-clause-sound : goal.returns-after-content-clause-sound
returns-after-content-clause-sound c =
    and_true c.content.sound c.content.invariant.clean (sound_end c.args.content c.content.quoting c.args.text.now c.content.end (omega arith))
