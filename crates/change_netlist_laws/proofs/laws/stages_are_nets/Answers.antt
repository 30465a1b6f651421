use Rattle.change_netlist_laws.proofs.NewStageLemmas.{stages_are_nets, stages_differ}
use Rattle.change_netlist_laws.proofs.laws.stages_are_nets.Goals as goal

pub returns-clause-nets : goal.returns-clause-nets
returns-clause-nets c = stages_are_nets

pub returns-clause-differ : goal.returns-clause-differ
returns-clause-differ c = stages_differ
