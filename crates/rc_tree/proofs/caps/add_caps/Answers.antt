use Rattle.std.proofs.Common.{arith, ◌-◌}
use Rattle.rc_tree.proofs.CapLemmas.{rank_read, caps_more, small_so_far}
use Rattle.rc_tree.proofs.caps.add_caps.Goals as goal

pub overflow_sub-rank : goal.overflow_sub-rank
overflow_sub-rank c =
    (rank_read c.args.caps.now c.args.reached.now.places.items c.args.reached.now.ranks.items c.caps.k c.index.result.now c.requires.places c.caps-test.true c.index.ensures).some

pub bounds-nodes-rank : goal.bounds-nodes-rank
bounds-nodes-rank c =
    omega (
      arith,
      rank_read c.args.caps.now c.args.reached.now.places.items c.args.reached.now.ranks.items c.caps.k c.index.result.now c.requires.places c.caps-test.true c.index.ensures,
      c.requires.each,
    )

pub add_cap-requires : goal.add_cap-requires
add_cap-requires c =
    small_so_far c.args.caps.now c.args.reached.now.places.items c.args.nodes.now c.caps.nodes c.caps.k (c.index.result.now - 1) c.caps.invariant (omega arith)
    (omega (
      arith,
      rank_read c.args.caps.now c.args.reached.now.places.items c.args.reached.now.ranks.items c.caps.k c.index.result.now c.requires.places c.caps-test.true c.index.ensures,
      c.requires.each,
    ))
    (omega (arith, c.requires.count))

pub caps-preserved : goal.caps-preserved
caps-preserved c =
    caps_more c.args.caps.now c.args.reached.now.places.items c.args.reached.now.ranks.items c.args.nodes.now c.caps.nodes c.caps.k c.index.result.now c.add_cap.new.node
    c.requires.places c.caps.invariant c.requires.each (omega arith) c.caps-test.true (c.requires.values c.caps.k c.caps-test.true) c.index.ensures c.add_cap.ensures
