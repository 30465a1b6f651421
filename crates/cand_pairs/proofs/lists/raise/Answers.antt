use Rattle.std.proofs.Common.{ap, pos, arith, get_or}
use Rattle.std.proofs.lemmas.List.Elements.{All-get_or}
use Rattle.elmore.specs.declared.pair.Pair.{Pair}
use Rattle.cand_pairs.specs.Merging.{raised, IsModest}
use Rattle.cand_pairs.proofs.RaiseLemmas.{none_raised, one_raised, all_raised}
use Rattle.cand_pairs.proofs.lists.raise.Goals as goal

pub raise-init : goal.raise-init
raise-init c = none_raised c.args.more c.args.pairs.now

pub overflow_add-pairs : goal.overflow_add-pairs
overflow_add-pairs c =
    let small : IsModest (get_or c.args.pairs.now c.raise.i (record { q = pos 0; c = 0 })) =
    All-get_or IsModest c.args.pairs.now c.raise.i (record { q = pos 0; c = 0 }) c.raise-test.true c.requires.limits in
    omega (arith, small.load, c.requires.more, ap (λ (x : Pair). x.c) (c.raise.invariant.rest c.raise.i (record { q = pos 0; c = 0 }) (omega arith)))

pub raise-preserved : goal.raise-preserved
raise-preserved c =
    one_raised c.args.more c.args.pairs.now c.raise.i c.raise.pairs _ (record { q = pos 0; c = 0 }) c.raise-test.true
    (ap (raised c.args.more) (c.raise.invariant.rest c.raise.i (record { q = pos 0; c = 0 }) (omega arith)))
    c.raise.invariant

pub returns : goal.returns
returns c = all_raised c.args.more c.args.pairs.now c.raise.pairs c.raise.i (omega arith) c.requires.rise c.raise.invariant
