use Rattle.std.proofs.Common.{sym, ◌∙◌, ap, subst, Option, ◌+◌, refl}
use Rattle.std.specs.List.{list_all}
use Rattle.vg_scan.specs.declared.name.NodeName.{NodeName}
use Rattle.spef_file.specs.IndexFiles.{file_of}
use Rattle.spef_nodes.specs.Spellings.{is_itself, SpellsNode}
use Rattle.spef_nodes.proofs.NodeLemmas.{node_in-None, node_in-parts}
use Rattle.spef_nodes.proofs.SpellLemmas.{unescaped, all_take, all_drop}
use Rattle.spef_nodes.proofs.node.plain_node.Goals as goal

pub last_of-requires : goal.last_of-requires
last_of-requires c = unescaped c.args.index.now.header.chars c.args.text.now c.requires

pub returns-in-None : goal.returns-in-None
returns-in-None c = subst (λ (o : Option NodeName). SpellsNode c.port_node.result o) (sym (node_in-None (file_of c.args.index.now) c.args.text.now (sym c.last_of.ensures.place ∙ c.in-None.is))) c.port_node.ensures

pub returns-in-Some : goal.returns-in-Some
returns-in-Some c =
    subst (λ (o : Option NodeName). SpellsNode c.plain_parts.result o)
    (sym (node_in-parts (file_of c.args.index.now) c.args.text.now _ c.text_from.result.now c.in-Some.at (sym c.last_of.ensures.place ∙ c.in-Some.is) refl c.text_from.ensures))
    c.plain_parts.ensures

pub plain_parts-requires-clause-owner : goal.plain_parts-requires-clause-owner
plain_parts-requires-clause-owner c = all_take (is_itself c.args.index.now.header.chars) c.in-Some.at c.args.text.now c.requires

pub plain_parts-requires-clause-leaf : goal.plain_parts-requires-clause-leaf
plain_parts-requires-clause-leaf c = ap (list_all (is_itself c.args.index.now.header.chars)) c.text_from.ensures ∙ all_drop (is_itself c.args.index.now.header.chars) (c.in-Some.at + 1) c.args.text.now c.requires
