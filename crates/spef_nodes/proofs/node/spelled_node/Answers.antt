use Rattle.std.proofs.Common.{◌≡◌, sym, ◌∙◌, ap, subst, Option, option_map}
use Rattle.vg_scan.specs.Names.{canonical}
use Rattle.vg_scan.specs.declared.name.NodeName.{NodeName}
use Rattle.vg_scan.proofs.NodeLemmas.{part-owner, part-leaf}
use Rattle.spef_file.specs.IndexFiles.{file_of}
use Rattle.vg_scan.specs.Nodes.{node_of_parts}
use Rattle.spef_nodes.specs.Names.{owner_in, node_in}
use Rattle.spef_nodes.specs.Spellings.{SpellsNode}
use Rattle.spef_nodes.proofs.NodeLemmas.{node_in-None, node_in-parts}
use Rattle.spef_nodes.proofs.node.spelled_node.Goals as goal

pub returns-in-None : goal.returns-in-None
returns-in-None c =
    subst (λ (o : Option NodeName). SpellsNode c.port_node.result o)
    (sym (node_in-None (file_of c.args.index.now) c.args.text.now (sym c.split_node.ensures.place ∙ ap (option_map (λ parts. parts.0.to)) c.in-None.is)))
    c.port_node.ensures

pub returns-in-Some : goal.returns-in-Some
returns-in-Some c =
    let index = file_of c.args.index.now in
    let text = c.args.text.now in
    let same : node_in index text ≡ node_of_parts (owner_in index c.text_at.result.now) (canonical index.chars c.text_at-in-Some.result.now) =
    node_in-parts index text c.text_at.result.now c.text_at-in-Some.result.now c.in-Some.owner.to
    (sym c.split_node.ensures.place ∙ ap (option_map (λ parts. parts.0.to)) c.in-Some.is)
    (c.text_at.ensures ∙ part-owner text c.in-Some.owner.from c.in-Some.owner.to c.in-Some.ensures.parts.0)
    (c.text_at-in-Some.ensures ∙ part-leaf text c.in-Some.owner.to c.in-Some.leaf.from c.in-Some.leaf.to c.in-Some.ensures.parts.1 c.in-Some.ensures.parts.2) in
    subst (λ (o : Option NodeName). SpellsNode c.inner_node.result o) (sym same) c.inner_node.ensures
