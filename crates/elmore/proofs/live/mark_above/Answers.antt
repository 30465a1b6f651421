use Rattle.std.proofs.Common.{◌-◌, ◌<◌, arith, length}
use Rattle.elmore.specs.Trees.{parent_of}
use Rattle.elmore.specs.Problems.{is_sink}
use Rattle.elmore.proofs.TreeLemmas.{tree_falls, parent_read}
use Rattle.elmore.proofs.LiveLemmas.{marks_begin, marks_more, marks_same, marks_end}
use Rattle.elmore.proofs.live.mark_above.Goals as goal

pub up-init : goal.up-init
up-init c = marks_begin c.args.nodes.now (is_sink c.args.sinks.now) c.args.live.now c.requires.marked

pub bounds-live-parent : goal.bounds-live-parent
bounds-live-parent c =
    omega (arith, parent_read c.args.nodes.now (c.up.v - 1) (record { parent = 0; r = 0; c = 0 }), c.requires.tree.smaller (c.up.v - 1))

pub up-preserved-then-live-v : goal.up-preserved-then-live-v
up-preserved-then-live-v c =
    let i_n : c.up.v - 1 < length c.args.nodes.now = omega arith in
    rw (parent_read c.args.nodes.now (c.up.v - 1) (record { parent = 0; r = 0; c = 0 }) i_n)
    (marks_more (parent_of c.args.nodes.now) (is_sink c.args.sinks.now) (length c.args.nodes.now) c.up.live (c.up.v - 1) c.up.v
    (omega arith) (tree_falls c.args.nodes.now c.requires.tree) (c.requires.tree.smaller (c.up.v - 1) (omega arith) i_n) i_n (omega arith)
    c.if-live-v.true c.up.invariant)

pub up-preserved : goal.up-preserved
up-preserved c =
    let i_n : c.up.v - 1 < length c.args.nodes.now = omega arith in
    marks_same (parent_of c.args.nodes.now) (is_sink c.args.sinks.now) (length c.args.nodes.now) c.up.live (c.up.v - 1) c.up.v
    (omega arith) (tree_falls c.args.nodes.now c.requires.tree) (c.requires.tree.smaller (c.up.v - 1) (omega arith) i_n) i_n
    c.if-live-v.false c.up.invariant

pub returns : goal.returns
returns c = marks_end c.args.nodes.now c.requires.tree c.args.sinks.now c.up.live c.up.v (omega arith) c.up.invariant
