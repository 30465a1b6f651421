use Rattle.vg_design.proofs.LawLemmas.{bare_or_refused, one_bare_net}
use Rattle.vg_design.proofs.laws.one_bare_net.Goals as goal

pub returns-clause-net : goal.returns-clause-net
returns-clause-net c = one_bare_net

pub returns-clause-either : goal.returns-clause-either
returns-clause-either c = bare_or_refused
