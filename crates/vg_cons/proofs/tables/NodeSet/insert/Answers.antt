use Rattle.std.proofs.Common.{◌≡◌, true, false, not, List, [], ◌∷◌, ◌++◌, length, length-append, arith, sym, ap, ◌∙◌}
use Rattle.vg_scan.specs.Nodes.{has_node}
use Rattle.vg_scan.specs.declared.name.NodeName.{NodeName}
use Rattle.vg_cons.specs.Named.{named}
use Rattle.vg_cons.proofs.RowLemmas.{is_new, is_old, as_it_was, one_more}
use Rattle.vg_cons.proofs.tables.NodeSet.insert.Goals as goal

-- the node was there
there : (c : goal.Then-id-self) → has_node c.self.inside.nodes (named c.args.node) ≡ true
there c =
    is_old c.self.inside.nodes c.intern.new.self (named c.args.node) c.in_ok-id.id c.in_ok-id.ensures.nodes c.in_ok-id.ensures.number
    (λ same. c.if-id-self.true (omega (arith, same, c.self.invariant)))

pub invariant_of-self-then-id-self : goal.invariant_of-self-then-id-self
invariant_of-self-then-id-self c =
    c.self.invariant ∙ sym (ap length (as_it_was c.self.inside.nodes c.intern.new.self (named c.args.node) c.in_ok-id.ensures.nodes (there c)))

pub returns-then-id-self-clause-fresh : goal.returns-then-id-self-clause-fresh
returns-then-id-self-clause-fresh c = sym (ap not (ap (λ nodes. has_node nodes (named c.args.node)) (sym c.self.view_is) ∙ there c))

pub returns-then-id-self-clause-there : goal.returns-then-id-self-clause-there
returns-then-id-self-clause-there c = λ _. as_it_was c.self.inside.nodes c.intern.new.self (named c.args.node) c.in_ok-id.ensures.nodes (there c) ∙ c.self.view_is

-- the node is new
fresh : (c : goal.After-self-1) → has_node c.self.inside.nodes (named c.args.node) ≡ false
fresh c =
    is_new c.self.inside.nodes c.intern.new.self (named c.args.node) c.in_ok-id.id c.in_ok-id.ensures.nodes c.in_ok-id.ensures.number
    (omega (arith, c.if-id-self.false, c.self.invariant))

pub invariant_of-self-2 : goal.invariant_of-self-2
invariant_of-self-2 c =
    let more = ap length (one_more c.self.inside.nodes c.intern.new.self (named c.args.node) c.in_ok-id.ensures.nodes (fresh c)) in
    omega (arith, c.self.invariant, more, length-append c.self.inside.nodes (named c.args.node ∷ []))

pub returns-clause-fresh : goal.returns-clause-fresh
returns-clause-fresh c = sym (ap not (ap (λ nodes. has_node nodes (named c.args.node)) (sym c.self.view_is) ∙ fresh c))

pub returns-clause-last : goal.returns-clause-last
returns-clause-last c = λ _.
    one_more c.self.inside.nodes c.intern.new.self (named c.args.node) c.in_ok-id.ensures.nodes (fresh c)
    ∙ ap (λ (nodes : List NodeName). nodes ++ named c.args.node ∷ []) c.self.view_is
