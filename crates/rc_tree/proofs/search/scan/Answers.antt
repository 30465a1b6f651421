use Rattle.std.proofs.Common.{length, refl, arith}
use Rattle.rc_tree.specs.Chains.{edge_at}
use Rattle.rc_tree.specs.Search.{root_of}
use Rattle.rc_tree.proofs.JoinLemmas.{places_few}
use Rattle.rc_tree.proofs.SearchLemmas.{scan_begin, scan_turn, scan_done, far_node, link_after}
use Rattle.rc_tree.proofs.search.scan.Goals as goal

pub edges-preserved : goal.edges-preserved
edges-preserved c =
    scan_turn (length c.args.reached.now.ranks.items) (root_of c.args.reached.now.places.items) c.args.edges.now c.edges.reached.places.items c.edges.reached.ranks.items c.args.p c.index.result.now.node c.edges.j c.following-j.result
    (record { node = c.far_end.result; parent = c.args.p; edge = c.edges.j })
    c.reach.new.reached.places.items c.reach.new.reached.ranks.items
    c.edges.invariant c.in_ok-reach.ensures.places c.in_ok-reach.ensures.ranks
    (far_node (edge_at c.args.edges.now c.edges.j) (length c.args.reached.now.ranks.items) c.index.result.now.node c.far_end.result
    (c.requires.from_nodes c.edges.j c.edges-test.true) (c.requires.to_nodes c.edges.j c.edges-test.true) c.far_end.ensures)
    refl refl c.edges-test.true c.far_end.ensures
    (link_after c.args.edges.now c.args.links.now.first.items c.args.links.now.next.items c.index.result.now.node c.edges.j c.following-j.result
    c.index-in-edges.result.now c.requires.links c.edges-test.true c.index-in-edges.ensures c.following-j.ensures)

pub reach-requires-clause-few : goal.reach-requires-clause-few
reach-requires-clause-few c =
    omega (
      arith,
      places_few (length c.args.reached.now.ranks.items) c.edges.reached.places.items c.edges.reached.ranks.items c.edges.invariant.scan.marks,
      c.requires.most,
    )

pub returns : goal.returns
returns c =
    scan_done (length c.args.reached.now.ranks.items) (root_of c.args.reached.now.places.items) c.args.edges.now c.edges.reached.places.items c.edges.reached.ranks.items c.args.p c.index.result.now.node c.edges.j c.edges.invariant c.edges-test.false

pub edges-init : goal.edges-init
edges-init c =
    scan_begin (length c.args.reached.now.ranks.items) (root_of c.args.reached.now.places.items) c.args.edges.now c.args.links.now.first.items c.args.links.now.next.items
    c.args.reached.now.places.items c.args.reached.now.ranks.items c.args.p c.index-j.result.now c.index.result.now
    c.requires.before c.requires.place c.index.ensures c.requires.links c.requires.linked c.index-j.ensures
