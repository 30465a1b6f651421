use Rattle.lib_text.proofs.JoinLemmas.{plain_joins}
use Rattle.lib_text.proofs.join.turn.Goals as goal

pub returns-then-to-at : goal.returns-then-to-at
returns-then-to-at c = plain_joins c.args.text.now c.args.at c.mark_at-to.result c.if-to-at.true c.mark_at-to.ensures.place.1 c.mark_at-to.ensures.plain
