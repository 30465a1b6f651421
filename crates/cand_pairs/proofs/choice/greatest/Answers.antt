use Rattle.std.proofs.Common.{take, pos}
use Rattle.std.proofs.lemmas.List.{take_more}
use Rattle.cand_pairs.proofs.choice.greatest.Goals as goal

pub pairs-preserved : goal.pairs-preserved
pairs-preserved c =
    rw (take_more c.args.pairs.now c.pairs.pair-index (record { q = pos 0; c = 0 }) c.pairs-test.true)
    (c.with_pair-found.ensures (take c.pairs.pair-index c.args.pairs.now) c.pairs.invariant)
