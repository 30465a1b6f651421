use Rattle.spef_net.proofs.OneNetLemmas.{one_net, one_fault, fault_or_none}
use Rattle.spef_net.proofs.laws.one_net.Goals as goal

pub returns-clause-net : goal.returns-clause-net
returns-clause-net c = one_net

pub returns-clause-fault : goal.returns-clause-fault
returns-clause-fault c = one_fault

pub returns-clause-either : goal.returns-clause-either
returns-clause-either c = fault_or_none
