use Rattle.vg_retime.proofs.OneTimingLemmas.{one_timing}
use Rattle.vg_retime.proofs.laws.one_timing.Goals as goal

pub returns : goal.returns
returns c = one_timing
