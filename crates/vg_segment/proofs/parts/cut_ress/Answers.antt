use Rattle.std.proofs.Common.{get_or, arith}
use Rattle.std.proofs.lemmas.List.{get_or_default}
use Rattle.vg_segment.proofs.ChainLemmas.{chains_more}
use Rattle.vg_segment.proofs.parts.cut_ress.Goals as goal

pub res-preserved : goal.res-preserved
res-preserved c = record {
  cut = chains_more c.args.parts c.args.first c.res.next c.res.res-index c.args.ress.now c.res.cut.items _ (get_or c.args.ress.now c.res.res-index (0, 0, 0)) c.res-test.true (get_or_default c.args.ress.now c.res.res-index _ _ c.res-test.true) c.res.invariant.next c.res.invariant.cut c.in_ok-push_chain.ensures;
  next = omega (arith, c.res.invariant.next);
}
