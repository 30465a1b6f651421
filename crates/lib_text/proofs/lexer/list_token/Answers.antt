use Rattle.std.proofs.Common.{arith}
use Rattle.lib_text.proofs.TokenLemmas.{no_list, list_first}
use Rattle.lib_text.proofs.lexer.list_token.Goals as goal

pub returns-then-to-text : goal.returns-then-to-text
returns-then-to-text c = no_list c.args.text.now c.args.at c.content_end-to.result.0 c.requires c.content_end-to.ensures.place c.if-to-text.true

pub returns : goal.returns
returns c =
    list_first c.args.text.now c.args.at c.content_end-to.result.0 c.list_kind.result c.requires c.content_end-to.ensures.place (omega arith)
    (rw c.content_end-to.ensures.sound at c.list_kind.ensures)
