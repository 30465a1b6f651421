use Rattle.std.proofs.Common.{◌++◌, sym, ap, ◌∙◌, codes, append_assoc}
use Rattle.vg_gen.specs.Lines.{cell_name}
use Rattle.vg_gen.proofs.LineLemmas.{three_joined}
use Rattle.vg_gen.proofs.netlist.print_cell.Goals as goal

pub returns : goal.returns
returns c =
    let start = c.args.to.now.items in
    let name = cell_name c.args.j in
    c.in_ok-extend_from_slice-2.ensures.items
    ∙ ap (λ xs. xs ++ codes " (.A(g), .Z());\n")
    (c.in_ok-print_cell_name.ensures ∙ ap (λ xs. xs ++ name) c.in_ok-extend_from_slice.ensures.items)
    ∙ three_joined start (codes "BUF ") name (codes " (.A(g), .Z());\n")
    ∙ ap (λ xs. start ++ (codes "BUF " ++ xs)) (sym (append_assoc name (codes " (.A(g), .Z());") (codes "\n")))
