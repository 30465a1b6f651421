use Rattle.std.proofs.Common.{◌++◌, ◌∷◌, [], ℤ, ◌≤ℤ◌, SFits, Some, sym, subst, arith, rules}
use Rattle.std.proofs.lemmas.Int.{ints, to_z-of_z}
use mir.Syntax.{w128}
use Rattle.vg_retime.specs.Times.{IsLeastOf}
use Rattle.vg_retime.proofs.RangeLemmas.{least_new, least_stays}
use Rattle.vg_retime.proofs.signals.lesser.Goals as goal

pub returns-then-least-left-clause-least : goal.returns-then-least-left-clause-least
returns-then-least-left-clause-least c = λ times least.
    let f : SFits w128 c.args.left = c.ranges.left in
    let g : SFits w128 c.in-Some.least = search rules in
    let ordered : c.in-Some.least ≤ℤ c.args.left = omega (arith, ints) in
    subst (λ (z : ℤ). IsLeastOf (times ++ c.args.left ∷ []) (Some z)) (sym (to_z-of_z w128 c.in-Some.least g))
    (least_stays times c.in-Some.least c.args.left ordered (rw c.in-Some.is at least))

pub returns-else-least-left-clause-least : goal.returns-else-least-left-clause-least
returns-else-least-left-clause-least c = λ times least.
    let f : SFits w128 c.args.left = c.ranges.left in
    let g : SFits w128 c.in-Some.least = search rules in
    let ordered : c.args.left ≤ℤ c.in-Some.least = omega (arith, ints) in
    subst (λ (z : ℤ). IsLeastOf (times ++ c.args.left ∷ []) (Some z)) (sym (to_z-of_z w128 c.args.left f))
    (least_new times c.in-Some.least c.args.left ordered (rw c.in-Some.is at least))
