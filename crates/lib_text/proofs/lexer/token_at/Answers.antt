use Rattle.std.proofs.Common.{sym, ◌∙◌}
use Rattle.lib_text.proofs.TokenLemmas.{word_first, mark_first}
use Rattle.lib_text.proofs.lexer.token_at.Goals as goal

pub returns-then-is_letter : goal.returns-then-is_letter
returns-then-is_letter c =
    word_first c.args.text.now c.args.at c.requires.within c.word_end-to.result c.requires.solid (sym c.is_letter.ensures ∙ c.if-is_letter.true)
    c.word_end-to.ensures.place c.word_end-to.ensures.within

pub returns : goal.returns
returns c = rw c.content_after.ensures (mark_first c.args.text.now c.args.at c.requires.within c.requires.solid (sym c.is_letter.ensures ∙ c.if-is_letter.false))
