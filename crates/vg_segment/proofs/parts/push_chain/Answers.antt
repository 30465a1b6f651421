use Rattle.vg_segment.proofs.ChainLemmas.{piece_more}
use Rattle.vg_segment.proofs.parts.push_chain.Goals as goal

pub part-preserved : goal.part-preserved
part-preserved c =
    piece_more c.args.parts c.args.first c.args.res c.args.cut.now.items c.part.cut.items _ c.part.i _ c.part.invariant c.in_ok-push.ensures.items
    (λ j. (c.link-from.ensures j, c.link-to.ensures j, c.part_of.ensures j))
