use Rattle.std.proofs.Common.{◌≡◌, take}
use Rattle.change_spef_laws.specs.Order.{AreOpenFrom}
use Rattle.vg_design.specs.Designs.{net_names}
use Rattle.mode_best.specs.Steps.{AreBestJudged}
use Rattle.mode_best.proofs.nets.judge_all.Given as goal

abbrev pub invariant-net : goal.invariant-net
invariant-net l = record {
  judged : AreBestJudged l.design l.initial.judging.changes.prefix (take l.at (net_names l.design.spef)) l.judging;
  design : l.judging.changes.design ≡ l.design;
  free : AreOpenFrom l.judging.changes l.at;
}
