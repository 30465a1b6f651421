use Rattle.vg_segment.proofs.OneLemmas.{one_segmented}
use Rattle.vg_segment.proofs.laws.one_segmented.Goals as goal

pub returns : goal.returns
returns c = one_segmented
