use Rattle.std.proofs.Common.{refl, sym, ◌∙◌, subst}
use Rattle.std.specs.Prelude.{IsNone}
use Rattle.cand_pool.proofs.PublicLaws.{held_named}
use Rattle.tests_engine.proofs.RowLaws.{emptying_start, emptying_more, emptying_fewer, emptied_others, emptied_spare}
use Rattle.tests_engine.proofs.pool_lists.take_all.Goals as goal

pub tags-init : goal.tags-init
tags-init c = emptying_start _ c.args.bag c.requires

pub take-requires : goal.take-requires
take-requires c = held_named _ _ _ _ c.tags.invariant.held

pub tags-smaller : goal.tags-smaller
tags-smaller c =
    let more = emptying_more _ _ _ c.args.bag c.tags.bag c.take.new.bag c.take.result c.in-Some.tag c.tags.invariant c.in-Some.is c.take.ensures.empty c.take.ensures.some c.take.ensures.others c.in-Some.ensures.spare in
    emptying_fewer _ _ _ c.args.bag c.tags.bag c.take.new.bag c.tags.invariant more c.in-Some.ensures.spare

pub tags-preserved : goal.tags-preserved
tags-preserved c =
    emptying_more _ _ _ c.args.bag c.tags.bag c.take.new.bag c.take.result c.in-Some.tag c.tags.invariant c.in-Some.is c.take.ensures.empty c.take.ensures.some c.take.ensures.others c.in-Some.ensures.spare

pub returns-clause-spare : goal.returns-clause-spare
returns-clause-spare c =
    let none = c.take.ensures.none (subst IsNone (sym c.in_default.is) refl) in
    emptied_spare _ _ _ c.args.bag c.tags.bag c.tags.invariant none.0 (c.close.ensures ∙ none.1)

pub returns-clause-others : goal.returns-clause-others
returns-clause-others c =
    let none = c.take.ensures.none (subst IsNone (sym c.in_default.is) refl) in
    emptied_others _ _ _ c.args.bag c.tags.bag c.tags.invariant.others (c.close.ensures ∙ none.1)
