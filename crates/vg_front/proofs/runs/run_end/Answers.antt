use Rattle.std.proofs.Common.{rules}
use Rattle.vg_front.proofs.MeetLemmas.{run_begins, run_more}
use Rattle.vg_front.proofs.runs.run_end.Goals as goal

pub run-init : goal.run-init
run-init c = run_begins c.args.xs.now c.args.from c.requires

pub run-preserved : goal.run-preserved
run-preserved c = run_more c.args.xs.now c.args.from c.run.end c.run.invariant (c.run-test.ensures (search rules))
