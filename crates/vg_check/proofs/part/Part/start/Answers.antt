use Rattle.std.proofs.Common.{sym, ◌∙◌}
use Rattle.cand_pairs.specs.Parts.{list_of}
use Rattle.vg_check.proofs.PartLemmas.{sink_starts}
use Rattle.vg_check.proofs.part.Part.start.Goals as goal

pub returns-in_ok-pairs-in-Some : goal.returns-in_ok-pairs-in-Some
returns-in_ok-pairs-in-Some c = λ lists.
    sink_starts c.args.p.now lists c.args.node c.capacitance_of-c.result c.in-Some.sink (sym c.sink_at.ensures ∙ c.in-Some.is) c.capacitance_of-c.ensures
    (list_of c.in_ok-pairs-in-Some.pairs) c.in_ok-pairs-in-Some.ensures
