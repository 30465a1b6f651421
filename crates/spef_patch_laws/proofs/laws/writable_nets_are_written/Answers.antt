use Rattle.spef_patch_laws.proofs.InnerLemmas.{writable_nets}
use Rattle.spef_patch_laws.proofs.laws.writable_nets_are_written.Goals as goal

pub returns : goal.returns
returns c = writable_nets
