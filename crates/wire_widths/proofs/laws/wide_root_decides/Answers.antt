use Rattle.wire_widths.proofs.WideCoverLemmas.{wide_best}
use Rattle.cand_pairs.specs.Candidates.{of_lists}
use Rattle.wire_widths.proofs.laws.wide_root_decides.Goals as goal

pub returns : goal.returns
returns c = λ p widths lists. wide_best p widths (of_lists lists)
