use Rattle.std.proofs.Common.{◌∙◌, arith}
use Rattle.lib_text.proofs.TokenLemmas.{passed, nothing_after, later_first}
use Rattle.lib_text.proofs.lexer.plain_token.Goals as goal

pub returns-then-from-text : goal.returns-then-from-text
returns-then-from-text c =
    passed c.args.text.now c.args.at c.space_end-from.result c.space_end-from.ensures.place ∙ nothing_after c.args.text.now c.space_end-from.result (omega arith)

pub returns : goal.returns
returns c =
    later_first c.args.text.now c.args.at c.space_end-from.result c.token_at.result (omega arith)
    (passed c.args.text.now c.args.at c.space_end-from.result c.space_end-from.ensures.place) c.token_at.ensures
