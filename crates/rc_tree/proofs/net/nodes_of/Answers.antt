use Rattle.std.proofs.Common.{◌≡◌, ◌∙◌, ap, arith, length, map}
use Rattle.std.proofs.Math.Seq.{take-append_seam}
use Rattle.rc_tree.specs.Search.{bare_node_of}
use Rattle.rc_tree.proofs.CapLemmas.{bare_none, nodes_done}
use Rattle.rc_tree.proofs.net.nodes_of.Goals as goal

pub add_caps-requires-clause-none : goal.add_caps-requires-clause-none
add_caps-requires-clause-none c =
    bare_none c.args.edges.now c.deref.result.now c.deref_mut.result.now (c.deref_mut.ensures.value ∙ c.in_ok-nodes.ensures)

pub returns : goal.returns
returns c =
    let len : c.in_ok-nodes.nodes.len ≡ length c.add_caps.new.nodes = omega (arith, c.deref_mut.ensures.len, c.add_caps.auto.nodes) in
    rw len
    (take-append_seam c.add_caps.new.nodes _
    ∙ nodes_done c.args.edges.now c.args.caps.now c.args.reached.now.places.items c.deref_mut.result.now c.add_caps.new.nodes
    (c.deref_mut.ensures.value ∙ c.in_ok-nodes.ensures ∙ ap (map (bare_node_of c.args.edges.now)) c.deref.ensures.value)
    c.add_caps.auto.nodes c.add_caps.ensures)
