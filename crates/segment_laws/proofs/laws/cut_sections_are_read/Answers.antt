use Rattle.segment_laws.proofs.SegmentedTextLemmas.{cut_sections_are_read}
use Rattle.segment_laws.proofs.laws.cut_sections_are_read.Goals as goal

pub returns : goal.returns
returns c = cut_sections_are_read
