use Rattle.std.proofs.Common.{◌++◌, ap, ◌∙◌, codes}
use Rattle.vg_gen.specs.Nets.{branch_count, charge, total}
use Rattle.vg_gen.specs.Lines.{ended, head_line, lined}
use Rattle.vg_gen.specs.Texts.{conn_lines, header_lines, line_caps, res_lines}
use Rattle.vg_gen.proofs.NetLemmas.{charge_fits, charge_is}
use Rattle.vg_gen.proofs.LineLemmas.{spef_joined}
use Rattle.vg_gen.proofs.spef.spef.Goals as goal

pub charge-requires : goal.charge-requires
charge-requires c = charge_fits c.args.size c.args.line.now c.requires.few c.requires.line

pub returns : goal.returns
returns c =
    let size = c.args.size in
    let conns = conn_lines (branch_count size) in
    c.in_ok-extend_from_slice-2.ensures.items
    ∙ ap (λ xs. xs ++ ended (codes "*END"))
    (c.in_ok-print_ress.ensures
    ∙ ap (λ xs. xs ++ lined (res_lines size))
    (c.in_ok-print_caps.ensures
    ∙ ap (λ xs. xs ++ lined (line_caps size))
    (c.in_ok-extend_from_slice.ensures.items
    ∙ ap (λ xs. xs ++ ended (codes "*CAP"))
    (c.in_ok-print_conns.ensures
    ∙ ap (λ xs. xs ++ lined conns)
    (c.in_ok-print_head.ensures
    ∙ ap (λ n. c.in_ok-text.text.items ++ ended (head_line n)) (c.charge.ensures ∙ ap charge c.requires.line ∙ charge_is size)
    ∙ ap (λ xs. xs ++ ended (head_line (total size))) (c.in_ok-text.ensures.items ∙ c.header.ensures))))))
    ∙ spef_joined header_lines (head_line (total size)) conns (codes "*CAP") (line_caps size) (res_lines size) (codes "*END")
