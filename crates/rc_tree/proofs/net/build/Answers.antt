use Rattle.std.proofs.Common.{ℕ, List, length, map, sym, subst, ◌<◌}
use Rattle.elmore.specs.declared.tree.Node.{Node}
use Rattle.rc_tree.specs.Answers.{IsTreeOf}
use Rattle.rc_tree.specs.Search.{node_of, IsSeen, IsSearch}
use Rattle.rc_tree.proofs.JoinLemmas.{least_floating, all_joined}
use Rattle.rc_tree.proofs.TreeLemmas.{a_tree, have_places, tree_done}
use Rattle.rc_tree.proofs.net.build.Goals as goal

pub returns-in-Some : goal.returns-in-Some
returns-in-Some c =
    least_floating c.args.n c.args.root c.args.edges.now c.in_ok-reached.reached.places.items c.deref.result.now c.in-Some.v
    (subst (IsSearch c.args.n c.args.root c.args.edges.now c.in_ok-reached.reached.places.items) (sym c.deref.ensures.value) c.in_ok-reached.ensures)
    c.in-Some.ensures

pub returns-then-edges-n : goal.returns-then-edges-n
returns-then-edges-n c = record {
  joined = all_joined c.args.n c.args.root c.args.edges.now c.in_ok-reached.reached.places.items c.deref.result.now
      (subst (IsSearch c.args.n c.args.root c.args.edges.now c.in_ok-reached.reached.places.items) (sym c.deref.ensures.value) c.in_ok-reached.ensures)
      c.in_default.ensures;
  count = c.if-edges-n.true;
}

pub tree_of-requires-clause-places : goal.tree_of-requires-clause-places
tree_of-requires-clause-places c =
    have_places c.args.n c.args.root c.args.caps.now c.args.edges.now c.in_ok-reached.reached.places.items c.in_ok-reached.reached.ranks.items c.in_ok-reached.ensures
    (subst (λ (ranks : List ℕ). (v : ℕ) → v < length ranks → IsSeen ranks v) c.deref.ensures.value c.in_default.ensures)
    c.requires.cap_nodes

pub tree_of-requires-clause-tree : goal.tree_of-requires-clause-tree
tree_of-requires-clause-tree c =
    a_tree c.args.n c.args.root c.args.edges.now c.in_ok-reached.reached.places.items c.args.caps.now c.in_ok-reached.ensures.reached

pub returns : goal.returns
returns c =
    subst (λ (nodes : List Node). IsTreeOf c.args.n c.args.root c.args.caps.now c.args.edges.now nodes c.in_ok-built.built.order) (sym c.in_ok-built.ensures.nodes)
    (subst (λ (order : List ℕ). IsTreeOf c.args.n c.args.root c.args.caps.now c.args.edges.now (map (node_of c.args.edges.now c.args.caps.now) c.in_ok-reached.reached.places.items) order) (sym c.in_ok-built.ensures.order)
    (tree_done c.args.n c.args.root c.args.caps.now c.args.edges.now c.in_ok-reached.reached.places.items c.in_ok-reached.reached.ranks.items
    c.in_ok-reached.ensures
    (subst (λ (ranks : List ℕ). (v : ℕ) → v < length ranks → IsSeen ranks v) c.deref.ensures.value c.in_default.ensures)
    c.if-edges-n.false))
