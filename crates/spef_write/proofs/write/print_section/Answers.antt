use Rattle.std.proofs.Common.{◌++◌, map, codes, ap, ◌∙◌}
use Rattle.spef_write.specs.Printed.{cap_rows, conn_row, printed_at, res_rows, star_rows}
use Rattle.spef_write.specs.Texts.{ended, lined}
use Rattle.spef_write.proofs.PartLemmas.{cap_nodes_within, conns_low, name_printable, parts_are, ress_low}
use Rattle.spef_write.proofs.write.print_section.Goals as goal

pub print_head-requires : goal.print_head-requires
print_head-requires c = name_printable c.args.header.now.chars c.requires.0 c.args.section.now c.requires.1

pub print_conns-requires : goal.print_conns-requires
print_conns-requires c = conns_low c.args.header.now.chars c.requires.0 c.args.section.now c.requires.1

pub print_caps-requires : goal.print_caps-requires
print_caps-requires c = cap_nodes_within c.args.header.now.chars c.requires.0 c.args.section.now c.requires.1

pub print_ress-requires : goal.print_ress-requires
print_ress-requires c = ress_low c.args.header.now.chars c.requires.0 c.args.section.now c.requires.1

pub returns : goal.returns
returns c = λ net is.
    let header = c.args.header.now in
    let section = c.args.section.now in
    let nodes = section.nodes.now in
    c.in_ok-extend_from_slice-2.ensures.items
    ∙ ap (λ xs. xs ++ codes "*END")
    (c.in_ok-print_ress.ensures
    ∙ ap (λ xs. xs ++ lined (res_rows header nodes section.ress.now))
    (c.in_ok-print_caps.ensures
    ∙ ap (λ xs. xs ++ lined (cap_rows header (map (printed_at nodes) section.cap_nodes.now)))
    (c.in_ok-print_stars.ensures
    ∙ ap (λ xs. xs ++ lined (star_rows nodes))
    (c.in_ok-print_conns.ensures
    ∙ ap (λ xs. xs ++ lined (map (conn_row nodes) section.conns.now))
    (c.in_ok-extend_from_slice.ensures.items ∙ ap (λ xs. xs ++ ended (codes "*CONN")) c.in_ok-print_head.ensures)))))
    ∙ parts_are header net section is c.args.to.now.items
