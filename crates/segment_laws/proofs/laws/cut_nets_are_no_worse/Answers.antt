use Rattle.segment_laws.proofs.SegmentedDesignLemmas.{cut_nets_are_no_worse}
use Rattle.segment_laws.proofs.laws.cut_nets_are_no_worse.Goals as goal

pub returns : goal.returns
returns c = cut_nets_are_no_worse
