use Rattle.std.proofs.Common.{◌≡◌, ◌∙◌, ℕ, List, get_or, sym, ap, subst, arith}
use Rattle.std.proofs.lemmas.List.{get_or_default}
use Rattle.sta_graph.specs.declared.graph.Sink.{Sink}
use Rattle.vg_sta.specs.Ends.{IsNodeOf}
use Rattle.vg_sta.proofs.GraphLemmas.{NO_SINK}
use Rattle.vg_sta.proofs.EndLemmas.{all_nodes, all_places, ends_there, node_there}
use Rattle.vg_sta.proofs.timing.sink_name.Goals as goal

pub index-node-requires : goal.index-node-requires
index-node-requires c =
    let all = all_nodes c.args.design.now c.args.listed.now c.requires.listed in
    let low = c.requires.sink in
    omega (arith, all, low)

pub node_name-requires-clause-net : goal.node_name-requires-clause-net
node_name-requires-clause-net c =
    let listed = c.requires.listed in
    let size = all_places c.args.design.now c.args.listed.now listed.nets listed.graph_of in
    let low = c.requires.sink in
    let there = node_there c.args.design.now c.args.listed.now listed.nets listed.graph_of listed.nodes c.args.sink (omega (arith, low, size)) in
    let all = all_nodes c.args.design.now c.args.listed.now listed in
    let node : c.index-node.result.now ≡ get_or c.args.listed.now.nodes.items c.args.sink 0 =
    c.index-node.ensures ∙ get_or_default c.args.listed.now.nodes.items c.args.sink c.index-node.result.now 0 (omega (arith, all, low)) in
    subst (λ (n : ℕ). IsNodeOf c.args.design.now (get_or c.as_slice.result.now c.args.sink NO_SINK).net n) (sym node)
    (subst (λ (xs : List Sink). IsNodeOf c.args.design.now (get_or xs c.args.sink NO_SINK).net (get_or c.args.listed.now.nodes.items c.args.sink 0)) (sym c.as_slice.ensures) there)

pub returns : goal.returns
returns c =
    let low = c.requires.sink in
    let all = all_nodes c.args.design.now c.args.listed.now c.requires.listed in
    let node : c.index-node.result.now ≡ get_or c.args.listed.now.nodes.items c.args.sink 0 =
    c.index-node.ensures ∙ get_or_default c.args.listed.now.nodes.items c.args.sink c.index-node.result.now 0 (omega (arith, all, low)) in
    ends_there c.args.design.now c.args.listed.now c.requires.listed c.args.sink _ _ c.node_name.result c.requires.sink
    (ap (λ (xs : List Sink). (get_or xs c.args.sink NO_SINK).net) c.as_slice.ensures) node c.node_name.ensures
