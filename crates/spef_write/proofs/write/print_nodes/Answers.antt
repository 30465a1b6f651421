use Rattle.std.proofs.Common.{◌≡◌, ◌+◌, ◌<◌, [], ◌∷◌, ◌++◌, List, length, take, get_or, sym, ap, ◌∙◌, subst, arith}
use Rattle.std.specs.List.{AllPass}
use Rattle.std.proofs.lemmas.List.{length-take, take_more}
use Rattle.spef_nodes.specs.Nodes.{ParNode}
use Rattle.vg_scan.specs.Printed.{is_solid, IsPrintable}
use Rattle.spef_write.specs.Printed.{PrintedNode, printed_all, printed_of}
use Rattle.spef_write.specs.Sections.{NO_NODE, node_at, total_at}
use Rattle.spef_write.proofs.NetLemmas.{node_printable}
use Rattle.spef_write.proofs.PartLemmas.{printed_more, printed_none}
use Rattle.spef_write.proofs.write.print_nodes.Goals as goal

pub node-init : goal.node-init
node-init c = c.new-nodes.ensures ∙ sym (printed_none c.args.chars.now c.args.net.now.caps 0)

pub push-requires-clause-owner : goal.push-requires-clause-owner
push-requires-clause-owner c =
    subst IsPrintable (sym (c.owner.ensures NO_NODE)) (node_printable c.args.net.now c.node.at (omega (arith, c.node-test.true, c.len-at-end.ensures))).owner

pub push-requires-clause-leaf : goal.push-requires-clause-leaf
push-requires-clause-leaf c =
    subst (AllPass is_solid) (sym (c.leaf.ensures NO_NODE)) (node_printable c.args.net.now c.node.at (omega (arith, c.node-test.true, c.len-at-end.ensures))).leaf

pub node-preserved : goal.node-preserved
node-preserved c =
    let chars = c.args.chars.now in
    let net = c.args.net.now in
    let at = c.node.at in
    let low : at < length net.nodes = omega (arith, c.node-test.true, c.len-at-end.ensures) in
    let node = node_at net.nodes at in
    let owner = c.owner.ensures NO_NODE in
    let leaf = c.leaf.ensures NO_NODE in
    let inner = c.is_inner.ensures NO_NODE in
    let note = c.note.ensures NO_NODE in
    let before : List ParNode = take at net.nodes in
    let number : at ≡ 0 + length before = omega (arith, length-take at net.nodes, low) in
    let charge : get_or c.args.sums.now at 0 ≡ total_at net.caps (0 + length before) = c.requires.each at low ∙ ap (total_at net.caps) number in
    c.in_ok-push.ensures
    ∙ (λ i. c.node.nodes ++ printed_of chars (record { name = record { owner = owner i; leaf = leaf i }; inner = inner i; note = note i }) (get_or c.args.sums.now at 0) ∷ [])
    ∙ ap (λ (rows : List PrintedNode). rows ++ printed_of chars node (get_or c.args.sums.now at 0) ∷ []) c.node.invariant
    ∙ ap (λ n. printed_all chars net.caps 0 before ++ printed_of chars node n ∷ []) charge
    ∙ sym (printed_more chars net.caps 0 before node)
    ∙ ap (printed_all chars net.caps 0) (sym (take_more net.nodes at NO_NODE low))
