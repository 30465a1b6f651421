use Rattle.vg_scan.proofs.PieceLemmas.{comments_only_blank}
use Rattle.vg_scan.proofs.laws.comments_keep_lines.Goals as goal

pub returns : goal.returns
returns c = comments_only_blank
