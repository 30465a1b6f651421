use Rattle.std.proofs.Common.{refl, rules, subst}
use mir.Val.{SFits}
use Rattle.std.specs.Int.{w128}
use Rattle.std.proofs.lemmas.Int.{to_z-of_z}
use Rattle.vg_check.specs.Verdicts.{IsBoundOf}
use Rattle.vg_check.proofs.BoundLemmas.{bound_first, bound_more, larger}
use Rattle.vg_check.proofs.bound.with_pair.Goals as goal

pub returns-in-Some : goal.returns-in-Some
returns-in-Some c = λ seen are.
    let fits : SFits w128 c.max.result = search rules in
    let most_fits : SFits w128 c.in-Some.most = search rules in
    let value_fits : SFits w128 c.value-value.result = search rules in
    rw (to_z-of_z w128 c.max.result fits)
    (bound_more c.args.p.now seen c.args.pair.now c.in-Some.most c.value-value.result c.max.result (c.if-not-drives.ensures.0 refl) c.value-value.ensures
    (larger c.in-Some.most c.value-value.result c.max.result
    (rw (to_z-of_z w128 c.in-Some.most most_fits, to_z-of_z w128 c.value-value.result value_fits) at c.max.ensures.value))
    (subst (IsBoundOf c.args.p.now seen) c.in-Some.is are))

pub returns-in-None : goal.returns-in-None
returns-in-None c = λ seen are.
    let fits : SFits w128 c.value-value.result = search rules in
    rw (to_z-of_z w128 c.value-value.result fits)
    (bound_first c.args.p.now seen c.args.pair.now c.value-value.result (c.if-not-drives.ensures.0 refl) c.value-value.ensures
    (subst (IsBoundOf c.args.p.now seen) c.in-None.is are))
