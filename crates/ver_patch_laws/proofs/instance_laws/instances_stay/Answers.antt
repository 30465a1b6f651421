use Rattle.ver_patch_laws.proofs.InstanceLemmas.{instances_stay as all_stay}
use Rattle.ver_patch_laws.proofs.instance_laws.instances_stay.Goals as goal

pub returns : goal.returns
returns c = all_stay
