use Rattle.std.proofs.Common.{◌++◌, ap, ◌∙◌, codes}
use Rattle.vg_gen.specs.declared.net.Node.TheVariants.{Sink}
use Rattle.vg_gen.specs.Lines.{ended, lined, sink_line}
use Rattle.vg_gen.specs.Texts.{branch_sinks}
use Rattle.vg_gen.proofs.LineLemmas.{three_joined}
use Rattle.vg_gen.proofs.spef.print_conns.Goals as goal

pub returns : goal.returns
returns c =
    let sinks = lined (branch_sinks c.args.branches) in
    c.in_ok-print_branch_sinks.ensures
    ∙ ap (λ xs. xs ++ sinks) (c.in_ok-print_sink.ensures ∙ ap (λ xs. xs ++ ended (sink_line Sink)) c.in_ok-extend_from_slice.ensures.items)
    ∙ three_joined c.args.to.now.items (codes "*CONN\n*I u1:Z O\n") (ended (sink_line Sink)) sinks
