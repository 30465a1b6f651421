use Rattle.wire_widths.proofs.WideCoverLemmas.{wide_none}
use Rattle.cand_pairs.specs.Candidates.{of_lists}
use Rattle.wire_widths.proofs.laws.wide_cover_excludes.Goals as goal

pub returns : goal.returns
returns c = λ p widths lists. wide_none p widths (of_lists lists)
