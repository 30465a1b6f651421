use Rattle.std.proofs.Common.{◌∙◌, ap, ◌++◌}
use Rattle.std.specs.Prelude.{flat_map}
use Rattle.vg_cert.specs.Denoted.{both}
use Rattle.vg_cert.specs.Written.{line_text, node_line, pair_line, text_in}
use Rattle.vg_cert.proofs.WriteLemmas.{grown, section_text}
use Rattle.vg_cert.proofs.write.write_section.Goals as goal

pub returns : goal.returns
returns c =
    section_text (text_in c.args.to.now) (text_in c.close_full.new.self) (text_in c.write_list.new.to) (text_in c.write_list-2.new.to) (node_line c.args.names.now c.args.v (both c.args.lists.now)) c.args.lists.now.even.items
    c.args.lists.now.odd.items
    (c.in_ok-close_full.ensures ∙ grown c.args.to.now.closed.items c.args.to.now.last.items c.write_node.new.to.items _ c.in_ok-write_node.ensures)
    (c.in_ok-write_list.ensures ∙ ap (λ xs. text_in c.close_full.new.self ++ flat_map (λ x. line_text (pair_line x)) xs) c.deref.ensures.value)
    (c.in_ok-write_list-2.ensures ∙ ap (λ xs. text_in c.write_list.new.to ++ flat_map (λ x. line_text (pair_line x)) xs) c.deref-2.ensures.value)
