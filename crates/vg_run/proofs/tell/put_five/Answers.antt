use Rattle.std.proofs.Common.{◌++◌, [], subst}
use Rattle.vg_store.specs.Writing.{GainsPrefix}
use Rattle.vg_run.proofs.GainLemmas.{on_err, prefix_after, prefix_within, five}
use Rattle.vg_run.proofs.tell.put_five.Goals as goal

pub returns-in_err-put_three-clause-prefix : goal.returns-in_err-put_three-clause-prefix
returns-in_err-put_three-clause-prefix g c =
    on_err c.from_residual.result
    (subst (λ line. GainsPrefix (g.E.Out.state c.args.err.now) (g.E.Out.state c.put_three.new.err) line)
    (five c.args.front.now c.args.name.now c.args.middle.now (c.args.kind.now ++ (c.args.back.now ++ [])))
    (prefix_within (g.E.Out.state c.args.err.now) (g.E.Out.state c.put_three.new.err) (c.args.front.now ++ (c.args.name.now ++ c.args.middle.now)) (c.args.kind.now ++ (c.args.back.now ++ []))
    c.in_err-put_three.ensures.prefix))

pub returns-in_err-put_three-2-clause-prefix : goal.returns-in_err-put_three-2-clause-prefix
returns-in_err-put_three-2-clause-prefix g c =
    on_err c.from_residual-in_err-put_three-2.result
    (subst (λ line. GainsPrefix (g.E.Out.state c.args.err.now) (g.E.Out.state c.put_three-2.new.err) line)
    (five c.args.front.now c.args.name.now c.args.middle.now (c.args.kind.now ++ (c.args.back.now ++ [])))
    (prefix_after (g.E.Out.state c.args.err.now) (g.E.Out.state c.put_three.new.err) (g.E.Out.state c.put_three-2.new.err) (c.args.front.now ++ (c.args.name.now ++ c.args.middle.now)) (c.args.kind.now ++ (c.args.back.now ++ []))
    c.in_ok-put_three.ensures.all c.in_err-put_three-2.ensures.prefix))
