use Rattle.std.proofs.Common.{◌∙◌, sym, subst}
use Rattle.cand_pool.specs.Pools.{Block, HoldsBag}
use Rattle.cand_pool.proofs.PublicLaws.{held_named}
use Rattle.bench_lists.proofs.Lengths.{small_modest}
use Rattle.bench_lists.proofs.OperationLaws.{wired_off, other_beside, split_applied}
use Rattle.bench_lists.proofs.lists.wire.Goals as goal

pub wire-bag-requires-clause-modest : goal.wire-bag-requires-clause-modest
wire-bag-requires-clause-modest g c = small_modest _ c.requires.made.0.1

pub append-requires-clause-live : goal.append-requires-clause-live
append-requires-clause-live g c =
    let off = wired_off 52 0 _ _ c.args.list.now c.wire-bag.new.list c.wire-bag.result c.requires.made.0.0 c.wire-bag.ensures.list c.wire-bag.ensures.bag c.wire-bag.ensures.differ c.wire-bag.ensures.others c.wire-bag.ensures.spare in
    held_named _ _ _ _ (subst (λ (b : Block). HoldsBag b c.wire-bag.result off.ds) (sym c.discard-rest.ensures.same) off.gone)

pub append-requires-clause-other : goal.append-requires-clause-other
append-requires-clause-other g c =
    let off = wired_off 52 0 _ _ c.args.list.now c.wire-bag.new.list c.wire-bag.result c.requires.made.0.0 c.wire-bag.ensures.list c.wire-bag.ensures.bag c.wire-bag.ensures.differ c.wire-bag.ensures.others c.wire-bag.ensures.spare in
    let by = other_beside _ _ c.args.list.now c.wire-bag.new.list c.args.other c.wire-bag.result off c.requires.made.1.0 c.requires.differ in
    held_named _ _ _ _ (c.discard-rest.ensures.held _ by.held)

pub append-requires-clause-differ : goal.append-requires-clause-differ
append-requires-clause-differ g c =
    let off = wired_off 52 0 _ _ c.args.list.now c.wire-bag.new.list c.wire-bag.result c.requires.made.0.0 c.wire-bag.ensures.list c.wire-bag.ensures.bag c.wire-bag.ensures.differ c.wire-bag.ensures.others c.wire-bag.ensures.spare in
    let by = other_beside _ _ c.args.list.now c.wire-bag.new.list c.args.other c.wire-bag.result off c.requires.made.1.0 c.requires.differ in
    λ e. by.of_bag (e ∙ c.discard-rest.ensures.bag)

pub returns : goal.returns
returns g c =
    let off = wired_off 52 0 _ _ c.args.list.now c.wire-bag.new.list c.wire-bag.result c.requires.made.0.0 c.wire-bag.ensures.list c.wire-bag.ensures.bag c.wire-bag.ensures.differ c.wire-bag.ensures.others c.wire-bag.ensures.spare in
    split_applied _ _ _ _ c.args.list.now c.wire-bag.new.list c.args.other c.wire-bag.result c.discard-rest.result c.append.new.bag off c.requires.made.1.0 c.requires.differ c.discard-rest.ensures.same
    c.discard-rest.ensures.bag c.discard-rest.ensures.held c.append.ensures.bag c.append.ensures.others c.append.ensures.spare
