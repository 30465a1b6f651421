use Rattle.std.proofs.Common.{rules, ◌+◌, List, ℕ, sym, subst}
use Rattle.vg_front.proofs.CellLemmas.{AreUsableBelow, usable_begins, usable_more, usable_pass, usable_all}
use Rattle.vg_front.proofs.cells.usable.Goals as goal

pub reps-init : goal.reps-init
reps-init c = usable_begins c.args.p.now c.args.node c.args.odd c.args.below c.new-numbers.result.items c.new-numbers.ensures.items

pub reps-preserved-then-not-is_usable : goal.reps-preserved-then-not-is_usable
reps-preserved-then-not-is_usable c =
    usable_pass c.args.p.now c.args.node c.args.odd c.args.below c.reps.number c.reps.numbers.items c.if-not-is_usable.ensures c.reps.invariant

pub reps-preserved : goal.reps-preserved
reps-preserved c =
    subst (λ (l : List ℕ). AreUsableBelow c.args.p.now c.args.node c.args.odd c.args.below (c.reps.number + 1) l) (sym c.in_ok-push.ensures.items)
    (usable_more c.args.p.now c.args.node c.args.odd c.args.below c.reps.number c.reps.numbers.items c.if-not-is_usable.ensures c.reps.invariant)

pub returns : goal.returns
returns c = usable_all c.args.p.now c.args.node c.args.odd c.args.below c.reps.number c.reps.numbers.items (search rules) c.reps.invariant
