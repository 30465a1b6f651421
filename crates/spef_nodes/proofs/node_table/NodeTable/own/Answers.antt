use Rattle.std.proofs.Common.{◌≡◌, length, Bool, ◌||◌, cond, true, false, List, [], ◌∷◌, ◌++◌, sym, ap, ◌∙◌, Some}
use Rattle.std.specs.List.{slice_get}
use Rattle.vg_scan.specs.declared.name.NodeName.{NodeName}
use Rattle.vg_scan.specs.Nodes.{has_node}
use Rattle.spef_nodes.specs.Members.{with_node, is_inner}
use Rattle.spef_nodes.proofs.NodeTableLemmas.{with_there, slice_get_last, same_refl}
use Rattle.spef_nodes.proofs.NodeListLemmas.{slice_get-with_node}
use Rattle.spef_nodes.proofs.ApartLemmas.{has_at}
use Rattle.spef_nodes.proofs.node_table.NodeTable.own.Goals as goal

pub returns-in-Some-clause-owned : goal.returns-in-Some-clause-owned
returns-in-Some-clause-owned c =
    let old = c.args.self.now in
    let id = c.in-Some.id in
    let node : NodeName = record { owner = c.args.owner.now; leaf = c.args.leaf.now } in
    let at : slice_get old id ≡ Some node = ap (λ ns. slice_get ns id) (sym c.self.view_is) ∙ c.in-Some.ensures.found in
    (ap (λ b. b || is_inner c.args.net.now node) (has_at old id node at), slice_get-with_node old node id node at, with_there old id node same_refl at)

pub returns-in-Ok-clause-owned : goal.returns-in-Ok-clause-owned
returns-in-Ok-clause-owned c =
    let old = c.args.self.now in
    let id = c.in-Ok.id in
    let node : NodeName = record { owner = c.args.owner.now; leaf = c.args.leaf.now } in
    let none : has_node old node ≡ false = ap (λ ns. has_node ns node) (sym c.self.view_is) ∙ c.in-None.ensures.absent in
    let inner : is_inner c.args.net.now node ≡ true = sym c.is_inner.ensures ∙ c.if-not-is_inner.false in
    let last : with_node old node ≡ old ++ node ∷ [] = ap (λ (b : Bool). cond b old (old ++ node ∷ [])) none in (
      ap (λ b. b || is_inner c.args.net.now node) none ∙ inner,
      ap (λ ns. slice_get ns id) last ∙ slice_get_last old node id (c.in-Ok.ensures.number ∙ ap length c.self.view_is),
      c.in-Ok.ensures.nodes ∙ ap (λ (nodes : List NodeName). nodes ++ node ∷ []) c.self.view_is ∙ sym last,
    )
