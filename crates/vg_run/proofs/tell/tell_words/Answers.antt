use Rattle.std.proofs.Common.{subst, sym}
use Rattle.vg_run.specs.Run.{Says, refused_line}
use Rattle.vg_run.proofs.tell.tell_words.Goals as goal

pub returns-in-Missing : goal.returns-in-Missing
returns-in-Missing g c =
    subst (λ fault. Says (g.E.Out.state c.args.err.now) (g.E.Out.state c.say.new.err) (refused_line fault)) (sym c.in-Missing.is)
    (rw (c.as_bytes.ensures.value, c.name.ensures) at c.say.ensures)

pub returns-in-Excluded : goal.returns-in-Excluded
returns-in-Excluded g c =
    subst (λ fault. Says (g.E.Out.state c.args.err.now) (g.E.Out.state c.say-in-Excluded.new.err) (refused_line fault)) (sym c.in-Excluded.is)
    (rw (c.as_bytes-in-Excluded.ensures.value, c.name-in-Excluded.ensures) at c.say-in-Excluded.ensures)

pub returns-in-BadValue : goal.returns-in-BadValue
returns-in-BadValue g c =
    subst (λ fault. Says (g.E.Out.state c.args.err.now) (g.E.Out.state c.say-in-BadValue.new.err) (refused_line fault)) (sym c.in-BadValue.is)
    (rw (c.as_bytes-in-BadValue.ensures.value, c.name-in-BadValue.ensures) at c.say-in-BadValue.ensures)

pub returns-in-Equal : goal.returns-in-Equal
returns-in-Equal g c =
    subst (λ fault. Says (g.E.Out.state c.args.err.now) (g.E.Out.state c.say-in-Equal.new.err) (refused_line fault)) (sym c.in-Equal.is)
    (rw (c.as_bytes-one.ensures.value, c.name-in-Equal.ensures, c.as_bytes-other.ensures.value, c.name-in-Equal-2.ensures) at c.say-in-Equal.ensures)

pub returns-in-Memory : goal.returns-in-Memory
returns-in-Memory g c =
    subst (λ fault. Says (g.E.Out.state c.args.err.now) (g.E.Out.state c.say_line-in-Memory.new.err) (refused_line fault)) (sym c.in-Memory.is)
    c.say_line-in-Memory.ensures
