use Rattle.vg_words.proofs.FileLemmas.{files_differ}
use Rattle.vg_words.proofs.laws.files_differ.Goals as goal

pub returns : goal.returns
returns c = files_differ
