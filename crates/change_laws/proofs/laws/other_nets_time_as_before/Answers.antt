use Rattle.change_laws.proofs.OtherLemmas.{others_keep_problems, others_keep_slacks, others_retime}
use Rattle.change_laws.proofs.laws.other_nets_time_as_before.Goals as goal

pub returns-clause-problem : goal.returns-clause-problem
returns-clause-problem c = others_keep_problems

pub returns-clause-slack : goal.returns-clause-slack
returns-clause-slack c = others_keep_slacks

pub returns-clause-retimes : goal.returns-clause-retimes
returns-clause-retimes c = others_retime
