use Rattle.ver_patch_laws.proofs.AlikeLemmas.{nets_are_alike as all_alike, new_nets_are_bare as all_bare, wires_are_new as all_new}
use Rattle.ver_patch_laws.proofs.laws.nets_are_alike.Goals as goal

pub returns-clause-old : goal.returns-clause-old
returns-clause-old c = all_alike

pub returns-clause-bare : goal.returns-clause-bare
returns-clause-bare c = all_bare

pub returns-clause-wires : goal.returns-clause-wires
returns-clause-wires c = all_new
