use Rattle.ver_patch_text_laws.proofs.LawLemmas.{words_are_patched as are_patched}
use Rattle.ver_patch_text_laws.proofs.laws.words_are_patched.Goals as goal

pub returns : goal.returns
returns c = are_patched
