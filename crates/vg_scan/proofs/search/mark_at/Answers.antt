use Rattle.std.proofs.Common.{◌+◌, ap, ◌∙◌}
use Rattle.vg_scan.specs.Pieces.{is_mark}
use Rattle.vg_scan.proofs.SearchLemmas.{found_at}
use Rattle.vg_scan.proofs.search.mark_at.Goals as goal

pub returns-clause-place : goal.returns-clause-place
returns-clause-place c =
    ap (λ n. c.args.at + n) c.unwrap_or.ensures
    ∙ found_at is_mark c.args.text.now c.text_from-rest.result.now c.args.at c.memchr3.result c.text_from-rest.ensures c.memchr3.ensures
