use Rattle.std.proofs.Common.{◌≡◌, ℕ, ◌+◌, ◌<◌, List, [], ◌∷◌, ◌++◌, length, take, get_or, sym, ap, ◌∙◌, arith}
use Rattle.std.proofs.lemmas.List.{get_or-map, length-map, take_more}
use Rattle.spef_net.specs.declared.net.ParNet.{ParNet}
use Rattle.vg_design.specs.Designs.{NO_NODE, name_of}
use Rattle.vg_design.specs.Nets.{names_of}
use Rattle.vg_design.specs.declared.net_problem.PosedNet.{PosedNet}
use Rattle.vg_scan.specs.declared.name.NodeName.{NodeName}
use Rattle.vg_verdict.proofs.names.node_names.Goals as goal

-- the name of one node more
one_more : (net : ParNet) (order : List ℕ) (names after : List NodeName) (at : ℕ) (name : NodeName) → at < length order
    → name ≡ name_of net (get_or order at 0) → names ≡ take at (names_of net order) → after ≡ names ++ name ∷ []
    → after ≡ take (at + 1) (names_of net order)
one_more net order names after at name low is before pushed =
    let named : name ≡ get_or (names_of net order) at name = is ∙ sym (get_or-map (name_of net) order at 0 name low) in
    pushed ∙ (λ i. before i ++ named i ∷ [])
    ∙ sym (take_more (names_of net order) at name (omega (arith, low, length-map order (name_of net))))

pub node-preserved : goal.node-preserved
node-preserved c =
    let net = c.args.net.now.ready.pinned.net.par in
    let order = c.args.net.now.ready.order in
    let at = c.node.at in
    let seen : c.as_slice-order.result.now ≡ order = c.as_slice-order.ensures ∙ ap (λ (n : PosedNet). n.ready.order) c.net.view_is in
    let long : length c.as_slice-order.result.now ≡ length order = ap (λ (xs : List ℕ). length xs) seen in
    let named = c.in_ok-name.ensures NO_NODE ∙ ap (λ (n : PosedNet). name_of n.ready.pinned.net.par (get_or c.as_slice-order.result.now at 0)) c.net.view_is in
    one_more net order c.node.names.items c.push.new.self.items at c.in_ok-name.field-0 (omega (arith, c.node-test.true, long))
    (named ∙ ap (λ (xs : List ℕ). name_of net (get_or xs at 0)) seen) c.node.invariant c.in_ok-push.ensures.items
