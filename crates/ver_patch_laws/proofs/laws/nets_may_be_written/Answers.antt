use Rattle.ver_patch_laws.proofs.WritableLemmas.{nets_may_be_written as all_nets, wires_may_be_written as all_wires}
use Rattle.ver_patch_laws.proofs.laws.nets_may_be_written.Goals as goal

pub returns-clause-nets : goal.returns-clause-nets
returns-clause-nets c = all_nets

pub returns-clause-wires : goal.returns-clause-wires
returns-clause-wires c = all_wires
