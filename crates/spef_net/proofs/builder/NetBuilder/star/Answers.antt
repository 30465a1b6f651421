use Rattle.std.proofs.Common.{◌≡◌, ℕ, Bool, true, false, List, sym, ap, ◌∙◌}
use Rattle.vg_scan.specs.declared.name.NodeName.{NodeName}
use Rattle.spef_nodes.specs.Members.{is_inner}
use Rattle.spef_nodes.specs.Nodes.{note_at, is_joined, is_starred}
use Rattle.spef_net.specs.Builders.{PartialNet}
use Rattle.spef_nodes.specs.Spellings.{named_by}
use Rattle.spef_net.proofs.TakeLemmas.{star_outer, star_joined, takes_star, takes_again}
use Rattle.spef_net.proofs.builder.NetBuilder.star.Goals as goal

inner_of : (net seen : List ℕ) (owner leaf : List ℕ) (node : NodeName) (r b : Bool) → seen ≡ net → owner ≡ node.owner → leaf ≡ node.leaf → r ≡ is_inner seen (record { owner = owner; leaf = leaf }) → r ≡ b → is_inner net node ≡ b
inner_of net seen owner leaf node r b s e f g h = ap (λ n. is_inner n node) (sym s) ∙ sym (ap (is_inner seen) (let same : record { owner = owner; leaf = leaf } ≡ node = λ i. record { owner = e i; leaf = f i } in same)) ∙ sym g ∙ h

pub returns-then-not-is_inner-clause-taken : goal.returns-then-not-is_inner-clause-taken
returns-then-not-is_inner-clause-taken c = star_outer c.args.self.now.net c.args.self.now c.args.self.now (named_by c.args.node.now) c.args.note.now (inner_of c.args.self.now.net c.net.result.now _ _ (named_by c.args.node.now) c.is_inner.result false (c.net.ensures ∙ ap (λ (s : PartialNet). s.net) c.self.view_is) c.as_bytes.ensures c.as_bytes-2.ensures c.is_inner.ensures c.if-not-is_inner.true)

pub returns-then-is_joined-clause-taken : goal.returns-then-is_joined-clause-taken
returns-then-is_joined-clause-taken c =
    star_joined c.args.self.now.net c.args.self.now c.intern.new.self c.intern.new.self (named_by c.args.node.now) c.args.note.now c.in-Ok.id c.in-Ok.ensures.nodes c.in-Ok.ensures.number
    (inner_of c.args.self.now.net c.net.result.now _ _ (named_by c.args.node.now) c.is_inner.result true (c.net.ensures ∙ ap (λ (s : PartialNet). s.net) c.self.view_is) c.as_bytes.ensures c.as_bytes-2.ensures c.is_inner.ensures c.if-not-is_inner.false)
    (ap (λ (s : PartialNet). is_joined (note_at s.notes c.in-Ok.id)) (sym c.self-in-Ok.view_is) ∙ sym c.is_joined.ensures ∙ c.if-is_joined.true)

pub returns-then-is_starred-clause-taken : goal.returns-then-is_starred-clause-taken
returns-then-is_starred-clause-taken c =
    takes_again c.args.self.now.net c.args.self.now c.intern.new.self (named_by c.args.node.now) c.args.note.now c.in-Ok.id tt c.in-Ok.ensures.nodes c.in-Ok.ensures.number
    (inner_of c.args.self.now.net c.net.result.now _ _ (named_by c.args.node.now) c.is_inner.result true (c.net.ensures ∙ ap (λ (s : PartialNet). s.net) c.self.view_is) c.as_bytes.ensures c.as_bytes-2.ensures c.is_inner.ensures c.if-not-is_inner.false)
    (ap (λ (s : PartialNet). is_joined (note_at s.notes c.in-Ok.id)) (sym c.self-in-Ok.view_is) ∙ sym c.is_joined.ensures ∙ c.if-is_joined.false)
    (ap (λ (s : PartialNet). is_starred (note_at s.notes c.in-Ok.id)) (sym c.self-in-Ok.view_is) ∙ sym c.is_starred.ensures ∙ c.if-is_starred.true)

pub returns-in-Ok-add_star-clause-taken : goal.returns-in-Ok-add_star-clause-taken
returns-in-Ok-add_star-clause-taken c =
    takes_star c.args.self.now.net c.args.self.now c.intern.new.self c.add_star.new.self (named_by c.args.node.now) c.args.note.now c.in-Ok.id tt c.in-Ok.ensures.nodes c.in-Ok.ensures.number
    (inner_of c.args.self.now.net c.net.result.now _ _ (named_by c.args.node.now) c.is_inner.result true (c.net.ensures ∙ ap (λ (s : PartialNet). s.net) c.self.view_is) c.as_bytes.ensures c.as_bytes-2.ensures c.is_inner.ensures c.if-not-is_inner.false)
    (ap (λ (s : PartialNet). is_joined (note_at s.notes c.in-Ok.id)) (sym c.self-in-Ok.view_is) ∙ sym c.is_joined.ensures ∙ c.if-is_joined.false)
    (ap (λ (s : PartialNet). is_starred (note_at s.notes c.in-Ok.id)) (sym c.self-in-Ok.view_is) ∙ sym c.is_starred.ensures ∙ c.if-is_starred.false)
    c.in-Ok-add_star.ensures.0 c.in-Ok-add_star.ensures.1
