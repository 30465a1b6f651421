use Rattle.std.proofs.Common.{sym, ◌∙◌}
use Rattle.vg_front.specs.Branches.{list_of}
use Rattle.vg_front.proofs.PartLemmas.{sink_open}
use Rattle.vg_front.proofs.part.Part.start.Goals as goal

pub returns-in_ok-branch-in-Some-clause-part : goal.returns-in_ok-branch-in-Some-clause-part
returns-in_ok-branch-in-Some-clause-part c = λ cap.
    sink_open c.args.p.now c.args.node c.capacitance_of-c.result c.in-Some.sink (sym c.sink_at.ensures ∙ c.in-Some.is) c.capacitance_of-c.ensures cap
    c.args.arena.now
    (list_of c.in_ok-branch-in-Some.branch) c.in_ok-branch-in-Some.ensures.alone
