use Rattle.std.proofs.Common.{sym, ◌∙◌}
use Rattle.vg_retime.proofs.WalkNetLemmas.{sink_at_conn}
use Rattle.vg_retime.proofs.walk_net.end_at.Goals as goal

pub into_at-requires-clause-at : goal.into_at-requires-clause-at
into_at-requires-clause-at c = sink_at_conn c.args.design.now.rows c.args.net.now.net.par c.args.v c.in-Some.goal (sym c.requires.sink ∙ c.in-Some.is)
