use Rattle.ver_patch_laws.proofs.NewNameLemmas.{instances_differ as all_differ}
use Rattle.ver_patch_laws.proofs.instance_laws.instances_differ.Goals as goal

pub returns : goal.returns
returns c = all_differ
