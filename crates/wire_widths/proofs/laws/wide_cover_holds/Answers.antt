use Rattle.wire_widths.proofs.WideCoverLemmas.{wide_cover_over}
use Rattle.cand_pairs.specs.Candidates.{of_lists}
use Rattle.wire_widths.proofs.laws.wide_cover_holds.Goals as goal

pub returns : goal.returns
returns c = λ p widths lists are cover. wide_cover_over p widths (of_lists lists) are cover
