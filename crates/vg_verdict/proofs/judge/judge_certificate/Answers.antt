use Rattle.std.proofs.Common.{length}
use Rattle.vg_verdict.proofs.VerdictLemmas.{one_named}
use Rattle.vg_verdict.proofs.judge.judge_certificate.Goals as goal

pub print_verdict-requires : goal.print_verdict-requires
print_verdict-requires c =
    one_named c.args.problem.now c.args.cert.now c.in_ok-verdict.verdict (length c.args.names.now.nodes) c.requires.fits c.in_ok-verdict.ensures.verdict
    c.requires.names.nodes_each
