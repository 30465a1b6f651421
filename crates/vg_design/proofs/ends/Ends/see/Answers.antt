use Rattle.std.proofs.Common.{length, take, subst, sym, ap, refl, ◌∙◌, arith}
use Rattle.spef_nodes.specs.Members.{AreApart, node_named}
use Rattle.vg_scan.specs.Nodes.{has_node}
use Rattle.vg_design.specs.Steps.{Seen}
use Rattle.vg_design.proofs.SeeLemmas.{apart_more, longer, not_among, is_seen}
use Rattle.vg_design.proofs.ends.Ends.see.Goals as goal

pub invariant_of-self-then-at-len : goal.invariant_of-self-then-at-len
invariant_of-self-then-at-len c =
    let name = node_named c.args.owner.now c.args.leaf.now in
    let table = c.self.inside.table in
    let n = length c.self.inside.pins.items in
    let more = longer table n name c.self.invariant.0 c.self.invariant.1 in
    let size = ap length c.in_ok-at.ensures.nodes in
    (subst AreApart (sym c.in_ok-at.ensures.nodes) (apart_more table n name c.self.invariant.0 c.self.invariant.1), omega (arith, more, size, c.self.invariant.1))

pub returns-then-at-len-clause-none : goal.returns-then-at-len-clause-none
returns-then-at-len-clause-none c = λ _.
    let name = node_named c.args.owner.now c.args.leaf.now in
    let table = c.self.inside.table in
    let n = length c.self.inside.pins.items in
    ap (λ (s : Seen). has_node s.ends name) (sym c.self.view_is)
    ∙ not_among table n name c.self.invariant.0 c.self.invariant.1 c.in_ok-at.field-0 (rw c.in_ok-at.ensures.nodes at c.in_ok-at.ensures.number) (omega (arith, c.if-at-len.true, c.len.ensures)) (has_node (take n table) name) refl

pub invariant_of-self-2 : goal.invariant_of-self-2
invariant_of-self-2 c =
    let name = node_named c.args.owner.now c.args.leaf.now in
    let table = c.self.inside.table in
    let n = length c.self.inside.pins.items in
    let more = longer table n name c.self.invariant.0 c.self.invariant.1 in
    let size = ap length c.in_ok-at.ensures.nodes in
    let kept = c.keep_first.ensures.size in
    (subst AreApart (sym c.in_ok-at.ensures.nodes) (apart_more table n name c.self.invariant.0 c.self.invariant.1), omega (arith, more, size, kept, c.self.invariant.1))

pub returns-clause-seen : goal.returns-clause-seen
returns-clause-seen c = λ _.
    let name = node_named c.args.owner.now c.args.leaf.now in
    rw (sym c.self.view_is, c.in_ok-at.ensures.nodes)
    (is_seen c.self.inside.table name c.self.invariant.0 c.self.inside.pins.items c.keep_first.new.pins.items c.self.invariant.1 c.in_ok-at.field-0 c.args.pin
    (rw c.in_ok-at.ensures.nodes at c.in_ok-at.ensures.number) (omega (arith, c.if-at-len.false, c.len.ensures)) c.keep_first.ensures.size c.keep_first.ensures.own c.keep_first.ensures.others)
