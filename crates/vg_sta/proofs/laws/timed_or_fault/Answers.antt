use Rattle.vg_sta.proofs.LawLemmas.{timed_or_fault}
use Rattle.vg_sta.proofs.laws.timed_or_fault.Goals as goal

pub returns : goal.returns
returns c = timed_or_fault
