use Rattle.std.proofs.Common.{sym, ◌∙◌, arith}
use Rattle.ver_text.specs.Tokens.{before_close}
use Rattle.ver_text.proofs.RunLemmas.{rest_all, close_more}
use Rattle.ver_text.proofs.lexer.before_close.Goals as goal

pub close-preserved : goal.close-preserved
close-preserved c = record {
  within = omega arith;
  place =
      close_more c.args.close c.args.text.now c.close.end (before_close c.args.close c.args.text.now) (omega arith)
      (rw rest_all at (sym c.closes.ensures.test ∙ c.if-closes.false)) c.close.invariant.place;
}
