use Rattle.spef_patch_laws.proofs.IndexLemmas.{sections_may}
use Rattle.spef_patch_laws.proofs.laws.sections_may_change.Goals as goal

pub returns : goal.returns
returns c = sections_may
