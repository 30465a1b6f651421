use Rattle.std.proofs.Common.{◌+◌, ◌++◌, ap, ◌∙◌}
use Rattle.vg_gen.specs.Nets.{branch_resistor}
use Rattle.vg_gen.specs.Lines.{res_line, ended}
use Rattle.vg_gen.proofs.LineLemmas.{lines_more}
use Rattle.vg_gen.proofs.spef.print_branch_ress.Goals as goal

pub branch-preserved : goal.branch-preserved
branch-preserved c =
    let first = c.args.size + 1 in
    let j = c.branch.at + 1 in
    c.in_ok-print_res.ensures
    ∙ ap (λ resistor. c.branch.to.items ++ ended (res_line (first + j) resistor)) c.branch_resistor.ensures
    ∙ ap (λ xs. xs ++ ended (res_line (first + j) (branch_resistor j))) c.branch.invariant
    ∙ lines_more (λ k. res_line (first + k) (branch_resistor k)) c.args.to.now.items c.branch.at
