use Rattle.std.proofs.Common.{◌++◌, ap, ◌∙◌}
use Rattle.spef_write.specs.Made.{IsSectionOf}
use Rattle.spef_write.specs.Sections.{cap_nodes, section_text, total}
use Rattle.spef_write.proofs.write.section.Goals as goal

pub print_section-requires : goal.print_section-requires
print_section-requires c = (
  c.args.net.now,
  record {
    name = c.as_bytes.ensures;
    charge = c.charge_of.ensures ∙ ap total c.as_slice-3.ensures;
    nodes = c.in_ok-nodes.ensures;
    conns = c.as_slice-4.ensures;
    cap_nodes = c.deref-2.ensures.value ∙ c.in_ok-cap_nodes.ensures ∙ ap cap_nodes c.as_slice-2.ensures;
    ress = c.as_slice-5.ensures;
  },
)

pub returns : goal.returns
returns c =
    let made : IsSectionOf c.args.header.now.chars c.args.net.now _ = record {
      name = c.as_bytes.ensures;
      charge = c.charge_of.ensures ∙ ap total c.as_slice-3.ensures;
      nodes = c.in_ok-nodes.ensures;
      conns = c.as_slice-4.ensures;
      cap_nodes = c.deref-2.ensures.value ∙ c.in_ok-cap_nodes.ensures ∙ ap cap_nodes c.as_slice-2.ensures;
      ress = c.as_slice-5.ensures;
    } in
    c.in_ok-print_section.ensures c.args.net.now made ∙ ap (λ xs. xs ++ section_text c.args.header.now c.args.net.now) c.new-text.ensures.items
