use Rattle.vg_design.proofs.ReadyLemmas.{marked_within}
use Rattle.vg_design.proofs.parts.load_at.Goals as goal

pub sink_load-requires-clause-at : goal.sink_load-requires-clause-at
sink_load-requires-clause-at c = marked_within c.args.net.now.net.par c.args.marks.now c.args.v c.requires.marks c.if-not-marks-v.false
