use Rattle.vg_scan.proofs.PartLemmas.{parts_keep}
use Rattle.vg_scan.proofs.laws.parts_keep_comments.Goals as goal

pub returns : goal.returns
returns c = parts_keep
