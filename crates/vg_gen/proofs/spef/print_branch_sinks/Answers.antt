use Rattle.std.proofs.Common.{◌+◌, ◌++◌, ap, ◌∙◌}
use Rattle.vg_gen.specs.declared.net.Node.TheVariants.{Branch}
use Rattle.vg_gen.specs.Lines.{sink_line, ended}
use Rattle.vg_gen.proofs.LineLemmas.{lines_more}
use Rattle.vg_gen.proofs.spef.print_branch_sinks.Goals as goal

pub branch-preserved : goal.branch-preserved
branch-preserved c =
    c.in_ok-print_sink.ensures
    ∙ ap (λ xs. xs ++ ended (sink_line (Branch (c.branch.at + 1)))) c.branch.invariant
    ∙ lines_more (λ j. sink_line (Branch j)) c.args.to.now.items c.branch.at
