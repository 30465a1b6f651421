use Rattle.std.proofs.Common.{◌≡◌, ℕ, ◌+◌, ◌<◌, ◌≤◌, List, length, get_or, set, sym, ◌∙◌, subst, arith}
use Rattle.std.proofs.lemmas.List.{get_or_default}
use Rattle.elmore.specs.Trees.{parent_of}
use Rattle.elmore.specs.declared.problem.Problem.{Problem}
use Rattle.vg_slack.proofs.WaitLemmas.{AreLinkedBelow, none_linked, one_linked, all_linked}
use Rattle.vg_slack.proofs.waiting.Waiting.of.Goals as goal

-- as the code writes it
linked : (p : Problem) (i u b : ℕ) (last before : List ℕ) → 0 < i → i < length p.tree.nodes → AreLinkedBelow p i last before
    → u ≡ parent_of p.tree.nodes i → b ≡ get_or last u b → AreLinkedBelow p (i + 1) (set last u i) (set before i b)
linked p i u b last before some i_n are u_is b_is =
    let low : u < length last = omega (arith, u_is, p.tree.a_tree.smaller i some i_n, i_n, are.lasts) in
    subst (λ (k : ℕ). AreLinkedBelow p (i + 1) (set last u i) (set before i k)) (sym (b_is ∙ get_or_default last u b 0 low))
    (subst (λ (k : ℕ). AreLinkedBelow p (i + 1) (set last k i) (set before i (get_or last k 0))) (sym u_is) (one_linked p i last before some i_n are))

pub nodes-init : goal.nodes-init
nodes-init c =
    none_linked c.args.p.now c.in_ok-last.last.items c.in_ok-before.before.items (c.in_ok-last.ensures.count ∙ c.len-n.ensures)
    (c.in_ok-before.ensures.count ∙ c.len-n.ensures) (λ v v_n. c.in_ok-last.ensures.each v (omega (arith, v_n, c.len-n.ensures)))

pub nodes-preserved : goal.nodes-preserved
nodes-preserved c =
    linked c.args.p.now c.nodes.v c.parent_of-parent.result c.index.result.now c.nodes.last.items c.nodes.before.items
    (omega (arith, c.nodes.auto.v)) (omega (arith, c.nodes-test.true, c.len-n.ensures)) c.nodes.invariant
    c.parent_of-parent.ensures.parent c.index.ensures

pub returns : goal.returns
returns c =
    let some : 1 ≤ c.len-n.result = omega (arith, c.len-n.ensures, c.args.p.now.tree.a_tree.some_node) in
    let end : c.nodes.v ≡ length c.args.p.now.tree.nodes = omega (arith, c.nodes-test.false, c.nodes.auto.v-end some, c.len-n.ensures) in
    all_linked c.args.p.now _ (subst (λ (i : ℕ). AreLinkedBelow c.args.p.now i c.nodes.last.items c.nodes.before.items) end c.nodes.invariant)
