use Rattle.std.proofs.Common.{sym, subst}
use Rattle.ver_net.specs.Tables.{AreKept}
use Rattle.ver_net.proofs.StepLemmas.{kept_none}
use Rattle.ver_net.proofs.TerminalLemmas.{terminals_from_none}
use Rattle.ver_net.proofs.sparse.kept.Goals as goal

pub instance-init : goal.instance-init
instance-init c = subst (λ es. AreKept es c.new-rows.result) (sym (terminals_from_none 0)) (kept_none c.new-rows.result c.new-rows.ensures.empty)
