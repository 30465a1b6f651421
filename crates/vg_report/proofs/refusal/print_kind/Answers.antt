use Rattle.std.proofs.Common.{◌++◌, codes, sym, ap, ◌∙◌, append_assoc}
use Rattle.vg_report.specs.Reports.{printed_node, refusal_kind}
use Rattle.vg_report.proofs.refusal.print_kind.Goals as goal

pub returns-in_ok-print_node-in-Unconstrained : goal.returns-in_ok-print_node-in-Unconstrained
returns-in_ok-print_node-in-Unconstrained c =
    let node = printed_node c.in-Unconstrained.node in
    c.in_ok-print_node-in-Unconstrained.ensures.printed
    ∙ ap (λ text. text ++ node) c.in_ok-push-in-Unconstrained.ensures.printed
    ∙ append_assoc c.args.to.now.items (codes "Unconstrained ") node
    ∙ ap (λ refusal. c.args.to.now.items ++ refusal_kind refusal) (sym c.in-Unconstrained.is)
