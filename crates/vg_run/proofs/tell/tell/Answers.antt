use Rattle.std.proofs.Common.{sym, subst}
use Rattle.vg_run.specs.Outcomes.{Tells}
use Rattle.vg_run.proofs.tell.tell.Goals as goal

pub returns-in-Taken : goal.returns-in-Taken
returns-in-Taken g c =
    subst (λ outcome. Tells c.args.ask.now (g.E.Out.state c.args.err.now, g.E.Out.state c.tell_taken.new.err) outcome) (sym c.in-Taken.is)
    (rw c.as_bytes.ensures at c.tell_taken.ensures)

pub returns-in-Unwritten : goal.returns-in-Unwritten
returns-in-Unwritten g c =
    subst (λ outcome. Tells c.args.ask.now (g.E.Out.state c.args.err.now, g.E.Out.state c.tell_unwritten.new.err) outcome) (sym c.in-Unwritten.is)
    (rw c.output_text.ensures at c.tell_unwritten.ensures)

pub returns-in-WriteFault : goal.returns-in-WriteFault
returns-in-WriteFault g c =
    subst (λ outcome. Tells c.args.ask.now (g.E.Out.state c.args.err.now, g.E.Out.state c.say_line.new.err) outcome) (sym c.in-WriteFault.is)
    c.say_line.ensures

pub returns-in-Memory : goal.returns-in-Memory
returns-in-Memory g c =
    subst (λ outcome. Tells c.args.ask.now (g.E.Out.state c.args.err.now, g.E.Out.state c.say_line-in-Memory.new.err) outcome) (sym c.in-Memory.is)
    c.say_line-in-Memory.ensures
