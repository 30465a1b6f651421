use Rattle.std.specs.List.{slice_get}
use Rattle.std.proofs.Common.{Some, ◌≡◌, true, false, not, is_some, List, [], ◌∷◌, ◌++◌, length, zip, arith, sym, subst, ◌∙◌, ap}
use Rattle.vg_scan.specs.Nodes.{node_value, has_node}
use Rattle.vg_scan.specs.declared.name.NodeName.{NodeName}
use Rattle.spef_nodes.specs.Members.{AreApart, with_node}
use Rattle.vg_cons.specs.Named.{named}
use Rattle.vg_cons.proofs.RowLemmas.{has_value, is_new, is_old, as_it_was, one_more, still_apart, values_back, values_more, zip-last}
use Rattle.vg_cons.proofs.tables.NodeRows.insert.Goals as goal

-- the node is new
new_here : (g : _) (c : goal.Then-id-count g) → (c.intern.new.self ≡ with_node c.self.inside.nodes (named c.args.node)) × (has_node c.self.inside.nodes (named c.args.node) ≡ false)
new_here g c =
    let nodes = c.self.inside.nodes in
    let node = named c.args.node in
    let e : (c.intern.new.self ≡ with_node nodes node) × (slice_get c.intern.new.self c.in-Ok.id ≡ Some node) = (c.in-Ok.ensures.nodes, c.in-Ok.ensures.number) in
    (e.0, is_new nodes c.intern.new.self node c.in-Ok.id e.0 e.1 (omega (arith, c.if-id-count.true, c.len-count.ensures, c.self.invariant.1)))

pub invariant_of-self-then-id-count : goal.invariant_of-self-then-id-count
invariant_of-self-then-id-count g c =
    let nodes = c.self.inside.nodes in
    let node = named c.args.node in
    let h = new_here g c in
    let more = one_more nodes c.intern.new.self node h.0 h.1 in (
      still_apart nodes c.intern.new.self node h.0 c.self.invariant.0,
      ap length c.in_ok-push.ensures.items ∙ values_more c.self.inside.values.items nodes _ node c.self.invariant.1 ∙ sym (ap length more),
    )

pub returns-then-id-count-clause-fresh : goal.returns-then-id-count-clause-fresh
returns-then-id-count-clause-fresh g c =
    let node = named c.args.node in
    let h = new_here g c in
    sym (ap not (ap (λ rows. is_some (node_value rows node)) (sym c.self.view_is) ∙ has_value c.self.inside.nodes c.self.inside.values.items node c.self.invariant.1 ∙ h.1))

pub returns-then-id-count-clause-last : goal.returns-then-id-count-clause-last
returns-then-id-count-clause-last g c = λ _.
    let nodes = c.self.inside.nodes in
    let node = named c.args.node in
    let h = new_here g c in
    ap (λ (ns : List NodeName). zip ns c.push.new.self.items) (one_more nodes c.intern.new.self node h.0 h.1)
    ∙ ap (λ ts. zip (nodes ++ node ∷ []) ts) c.in_ok-push.ensures.items
    ∙ zip-last nodes c.self.inside.values.items node c.args.value c.self.invariant.1
    ∙ ap (λ rows. rows ++ (node, c.args.value) ∷ []) c.self.view_is

-- the node was there, and nothing has changed
old_here : (g : _) (c : goal.After-truncate-2 g) → (has_node c.self.inside.nodes (named c.args.node) ≡ true) × (c.intern.new.self ≡ c.self.inside.nodes) × (c.truncate-2.new.self.items ≡ c.self.inside.values.items)
old_here g c =
    let nodes = c.self.inside.nodes in
    let node = named c.args.node in
    let e : (c.intern.new.self ≡ with_node nodes node) × (slice_get c.intern.new.self c.in-Ok.id ≡ Some node) = (c.in-Ok.ensures.nodes, c.in-Ok.ensures.number) in
    let old = is_old nodes c.intern.new.self node c.in-Ok.id e.0 e.1 (λ same. c.if-id-count.false (omega (arith, same, c.len-count.ensures, c.self.invariant.1))) in (
      old,
      as_it_was nodes c.intern.new.self node e.0 old,
      values_back c.self.inside.values.items c.push.new.self.items c.truncate-2.new.self.items _ c.len-count.result c.in_ok-push.ensures.items (omega (arith, c.len-count.ensures)) c.truncate-2.ensures.items,
    )

pub invariant_of-self-2 : goal.invariant_of-self-2
invariant_of-self-2 g c =
    let h = old_here g c in
    (subst AreApart (sym h.1) c.self.invariant.0, ap length h.2 ∙ c.self.invariant.1 ∙ sym (ap length h.1))

pub returns-clause-fresh : goal.returns-clause-fresh
returns-clause-fresh g c =
    let node = named c.args.node in
    let h = old_here g c in
    sym (ap not (ap (λ rows. is_some (node_value rows node)) (sym c.self.view_is) ∙ has_value c.self.inside.nodes c.self.inside.values.items node c.self.invariant.1 ∙ h.0))

pub returns-clause-there : goal.returns-clause-there
returns-clause-there g c = λ _.
    let h = old_here g c in
    ap (λ (ns : List NodeName). zip ns c.truncate-2.new.self.items) h.1 ∙ ap (λ ts. zip c.self.inside.nodes ts) h.2 ∙ c.self.view_is
