use Rattle.std.proofs.Common.{subst, sym}
use Rattle.vg_run.specs.Run.{Says, flaw_line}
use Rattle.vg_run.proofs.tell.tell_flaw.Goals as goal

pub returns-in-Failed : goal.returns-in-Failed
returns-in-Failed g c =
    subst (λ flaw. Says (g.E.Out.state c.args.err.now) (g.E.Out.state c.say.new.err) (flaw_line c.args.name.now flaw)) (sym c.in-Failed.is)
    (rw c.as_bytes-name.ensures.value at c.say.ensures)
