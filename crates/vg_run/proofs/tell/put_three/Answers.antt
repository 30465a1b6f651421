use Rattle.std.proofs.Common.{◌++◌}
use Rattle.vg_run.proofs.GainLemmas.{on_err, prefix_after, prefix_within}
use Rattle.vg_run.proofs.tell.put_three.Goals as goal

pub returns-in_err-put_all-2-clause-prefix : goal.returns-in_err-put_all-2-clause-prefix
returns-in_err-put_all-2-clause-prefix g c =
    on_err c.from_residual-in_err-put_all-2.result
    (prefix_after (g.E.Out.state c.args.err.now) (g.E.Out.state c.put_all.new.out) (g.E.Out.state c.put_all-2.new.out) c.args.front.now (c.args.name.now ++ c.args.back.now)
    c.in_ok-put_all.ensures.all
    (prefix_within (g.E.Out.state c.put_all.new.out) (g.E.Out.state c.put_all-2.new.out) c.args.name.now c.args.back.now c.in_err-put_all-2.ensures.prefix))

pub returns-in_err-put_all-3-clause-prefix : goal.returns-in_err-put_all-3-clause-prefix
returns-in_err-put_all-3-clause-prefix g c =
    on_err c.from_residual-in_err-put_all-3.result
    (prefix_after (g.E.Out.state c.args.err.now) (g.E.Out.state c.put_all.new.out) (g.E.Out.state c.put_all-3.new.out) c.args.front.now (c.args.name.now ++ c.args.back.now)
    c.in_ok-put_all.ensures.all
    (prefix_after (g.E.Out.state c.put_all.new.out) (g.E.Out.state c.put_all-2.new.out) (g.E.Out.state c.put_all-3.new.out) c.args.name.now c.args.back.now
    c.in_ok-put_all-2.ensures.all c.in_err-put_all-3.ensures.prefix))
