use Rattle.std.proofs.Common.{arith, ◌||◌, sym, subst, ap, ◌∙◌}
use Rattle.std.specs.List.{list_any}
use Rattle.vg_cons.specs.BoxTrees.{IsTree, boxes_in, parts_in}
use Rattle.vg_cons.specs.Rows.{holds}
use Rattle.vg_cons.proofs.BoxTreeLemmas.{fewer, halves_are, in_leaf, either_holds, neither_holds}
use Rattle.vg_cons.proofs.box_tree.BoxTree.+hold.Goals as goal

pub hold-requires-then-holds : goal.hold-requires-then-holds
hold-requires-then-holds t c =
    let is = halves_are c.in-Halves.around c.in-Halves.one c.in-Halves.other (subst IsTree c.in-Halves.is c.requires.tree) in
    let less = fewer c.in-Halves.around c.in-Halves.one c.in-Halves.other in
    (omega (arith, c.decreases, ap parts_in c.deref-then-holds.ensures, ap parts_in c.in-Halves.is, less.0), subst IsTree (sym c.deref-then-holds.ensures) is.0)

pub hold-requires-else-hold : goal.hold-requires-else-hold
hold-requires-else-hold t c =
    let is = halves_are c.in-Halves.around c.in-Halves.one c.in-Halves.other (subst IsTree c.in-Halves.is c.requires.tree) in
    let less = fewer c.in-Halves.around c.in-Halves.one c.in-Halves.other in
    (omega (arith, c.decreases, ap parts_in c.deref-else-hold.ensures, ap parts_in c.in-Halves.is, less.1), subst IsTree (sym c.deref-else-hold.ensures) is.1)

pub returns-in-Leaf : goal.returns-in-Leaf
returns-in-Leaf t c =
    c.hold.ensures ∙ ap (list_any (holds c.args.point)) c.deref.ensures.value
    ∙ in_leaf c.in-Leaf.boxes c.args.point ∙ ap (λ tree. list_any (holds c.args.point) (boxes_in tree)) (sym c.in-Leaf.is)

pub returns-else-holds : goal.returns-else-holds
returns-else-holds t c =
    c.if-holds.false ∙ sym (ap (λ tree. list_any (holds c.args.point) (boxes_in tree)) c.in-Halves.is
    ∙ neither_holds c.in-Halves.around c.in-Halves.one c.in-Halves.other c.args.point (subst IsTree c.in-Halves.is c.requires.tree)
    (sym c.holds.ensures ∙ c.if-holds.false))

pub returns-then-hold : goal.returns-then-hold
returns-then-hold t c =
    let here = ap (λ tree. list_any (holds c.args.point) (boxes_in tree)) (sym c.deref-then-holds.ensures) ∙ sym c.hold-then-holds.ensures ∙ c.if-hold.true in
    c.if-hold.true ∙ sym (ap (λ tree. list_any (holds c.args.point) (boxes_in tree)) c.in-Halves.is
    ∙ either_holds c.in-Halves.around c.in-Halves.one c.in-Halves.other c.args.point
    ∙ ap (λ b. b || list_any (holds c.args.point) (boxes_in c.in-Halves.other.value)) here)

pub returns-else-hold : goal.returns-else-hold
returns-else-hold t c =
    let here = ap (λ tree. list_any (holds c.args.point) (boxes_in tree)) (sym c.deref-then-holds.ensures) ∙ sym c.hold-then-holds.ensures ∙ c.if-hold.false in
    let there = ap (λ tree. list_any (holds c.args.point) (boxes_in tree)) (sym c.deref-else-hold.ensures) ∙ sym c.hold-else-hold.ensures in
    sym (ap (λ tree. list_any (holds c.args.point) (boxes_in tree)) c.in-Halves.is
    ∙ either_holds c.in-Halves.around c.in-Halves.one c.in-Halves.other c.args.point
    ∙ ap (λ b. b || list_any (holds c.args.point) (boxes_in c.in-Halves.other.value)) here ∙ there)
