use Rattle.vg_slack.proofs.WaitLemmas.{AreLinkedBelow}
use Rattle.vg_slack.proofs.waiting.Waiting.of.Given as goal

abbrev pub invariant-nodes : goal.invariant-nodes
invariant-nodes l = AreLinkedBelow l.fn.p l.v l.last.items l.before.items
