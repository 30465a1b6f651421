use Rattle.std.proofs.Common.{sym, ap, ◌∙◌, subst}
use Rattle.std.proofs.lemmas.List.Sorted.{list_any-IsPermutation}
use Rattle.std.specs.List.{list_any}
use Rattle.vg_cons.specs.BoxTrees.{IsTree, boxes_in}
use Rattle.vg_cons.proofs.BoxTreeLemmas.{halves_same, halves_tree}
use Rattle.vg_cons.proofs.box_tree.BoxTree.+by.Goals as goal

pub returns-then-boxes-le-LEAF-clause-tree : goal.returns-then-boxes-le-LEAF-clause-tree
unfolding IsTree
returns-then-boxes-le-LEAF-clause-tree t c = tt

pub returns-then-boxes-le-LEAF-clause-same : goal.returns-then-boxes-le-LEAF-clause-same
unfolding boxes_in
returns-then-boxes-le-LEAF-clause-same t c test = ap (list_any test) c.in_ok-from_slice.ensures.items

pub returns-clause-same : goal.returns-clause-same
returns-clause-same t c test =
    halves_same c.sort_unstable_by_key.new.self c.around_all-around.result c.in_ok-new.field-0 c.in_ok-new-2.field-0 c.split_at_mut-one.result.0.now c.split_at_mut-one.result.1.now
    c.split_at_mut-one.ensures.value
    (λ p. ap (λ tree. list_any p (boxes_in tree)) c.in_ok-new.ensures.ok ∙ c.in_ok-one.ensures.same p)
    (λ p. ap (λ tree. list_any p (boxes_in tree)) c.in_ok-new-2.ensures.ok ∙ c.in_ok-other.ensures.same p) test
    ∙ sym (list_any-IsPermutation test c.args.boxes.now c.sort_unstable_by_key.new.self c.sort_unstable_by_key.ensures.permutation)

pub returns-clause-tree : goal.returns-clause-tree
returns-clause-tree t c =
    halves_tree c.sort_unstable_by_key.new.self c.around_all-around.result c.in_ok-new.field-0 c.in_ok-new-2.field-0
    (halves_same c.sort_unstable_by_key.new.self c.around_all-around.result c.in_ok-new.field-0 c.in_ok-new-2.field-0 c.split_at_mut-one.result.0.now c.split_at_mut-one.result.1.now
    c.split_at_mut-one.ensures.value
    (λ p. ap (λ tree. list_any p (boxes_in tree)) c.in_ok-new.ensures.ok ∙ c.in_ok-one.ensures.same p)
    (λ p. ap (λ tree. list_any p (boxes_in tree)) c.in_ok-new-2.ensures.ok ∙ c.in_ok-other.ensures.same p))
    c.around_all-around.ensures.all
    (subst IsTree (sym c.in_ok-new.ensures.ok) c.in_ok-one.ensures.tree) (subst IsTree (sym c.in_ok-new-2.ensures.ok) c.in_ok-other.ensures.tree)
