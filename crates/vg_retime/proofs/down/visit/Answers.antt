use Rattle.std.proofs.Common.{refl, ◌∙◌}
use Rattle.vg_retime.specs.Steps.{signal_of}
use Rattle.vg_retime.specs.WalkNets.{timed}
use Rattle.vg_retime.proofs.SignalLemmas.{lates_size}
use Rattle.vg_retime.proofs.down.visit.Goals as goal

pub least_in-walk-requires-clause-one_each : goal.least_in-walk-requires-clause-one_each
least_in-walk-requires-clause-one_each c =
    lates_size (timed c.args.net.now) (signal_of c.args.signal.now) c.deref.result.now (c.deref.ensures.value ∙ c.in_ok-lates.ensures.lates)

pub returns : goal.returns
returns c = record {
  first = refl;
  come = refl;
  signals = c.in_ok-pass_on.ensures;
  least = c.least_in-walk.ensures.least (signal_of c.args.signal.now) (c.deref.ensures.value ∙ c.in_ok-lates.ensures.lates);
  small = c.least_in-walk.ensures.small;
  wrong = c.in_ok-note_wrong.ensures;
}
