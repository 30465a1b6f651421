use Rattle.spef_patch_laws.proofs.ReadLemmas.{written_texts}
use Rattle.spef_patch_laws.proofs.laws.written_texts_are_read.Goals as goal

pub returns : goal.returns
returns c = written_texts
