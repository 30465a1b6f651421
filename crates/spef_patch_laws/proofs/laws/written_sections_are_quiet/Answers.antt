use Rattle.spef_patch_laws.proofs.QuietLemmas.{sections_quiet}
use Rattle.spef_patch_laws.proofs.laws.written_sections_are_quiet.Goals as goal

pub returns : goal.returns
returns c = sections_quiet
