use Rattle.std.proofs.Common.{refl}
use Rattle.cand_pairs.proofs.FoundLemmas.{found_first, found_more}
use Rattle.cand_pairs.proofs.choice.with_pair.Goals as goal

pub returns-in-Some : goal.returns-in-Some
returns-in-Some c = λ seen are.
    found_more c.args.rep.now seen c.args.pair.now _ c.in-Some.best c.above_cell-made.result (c.if-not-is_within.ensures.0 refl) c.above_cell-made.ensures
    c.later.ensures
    (rw c.in-Some.is at are)

pub returns-in-None : goal.returns-in-None
returns-in-None c = λ seen are.
    found_first c.args.rep.now seen c.args.pair.now _ (c.if-not-is_within.ensures.0 refl) c.above_cell-made.ensures (rw c.in-None.is at are)
