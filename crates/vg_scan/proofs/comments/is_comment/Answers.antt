use Rattle.std.proofs.Common.{sym}
use Rattle.vg_scan.proofs.NextLemmas.{last_begins}
use Rattle.vg_scan.proofs.comments.is_comment.Goals as goal

pub returns-then-at-text : goal.returns-then-at-text
returns-then-at-text c = sym (last_begins c.args.kind c.args.text.now c.args.at c.if-at-text.true)
