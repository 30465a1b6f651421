use Rattle.std.proofs.Common.{sym, ◌∙◌, get_or}
use Rattle.spef_net.proofs.HeadLemmas.{no_head_by, no_head_none, is_not}
use Rattle.spef_net.proofs.connections.may_be_head.Goals as goal

pub returns-then-is_empty : goal.returns-then-is_empty
returns-then-is_empty c = λ e. no_head_none c.args.line.now (sym c.is_empty.ensures ∙ c.if-is_empty.true)

pub returns : goal.returns
returns c = λ e. no_head_by c.args.line.now (sym c.is_empty.ensures ∙ c.if-is_empty.false) c.if-line-eq42.false c.if-line-eq32.false (is_not (get_or c.args.line.now 0 0) 9 e)
