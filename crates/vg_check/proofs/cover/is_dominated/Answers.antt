use Rattle.std.proofs.Common.{arith}
use Rattle.std.proofs.lemmas.Bool.{false≢true}
use Rattle.vg_check.proofs.CoverLemmas.{last_covers, last_decides}
use Rattle.vg_check.proofs.cover.is_dominated.Goals as goal

pub returns-then-count-eq0 : goal.returns-then-count-eq0
returns-then-count-eq0 c = (
  λ is. absurd (false≢true is),
  λ covered. absurd (omega (arith, (last_decides c.args.entries.now c.args.pair c.count_within-count.result c.requires c.count_within-count.ensures covered).0)),
)

pub returns : goal.returns
returns c = (
  λ is. last_covers c.args.entries.now c.args.pair c.count_within-count.result c.count_within-count.ensures (omega arith) (c.is_no_later.ensures.0 is),
  λ covered. c.is_no_later.ensures.1 (last_decides c.args.entries.now c.args.pair c.count_within-count.result c.requires c.count_within-count.ensures covered).1,
)
