use Rattle.spef_patch_laws.proofs.ReplacedLemmas.{replacements_read}
use Rattle.spef_patch_laws.proofs.laws.replacements_are_read.Goals as goal

pub returns : goal.returns
returns c = replacements_read
