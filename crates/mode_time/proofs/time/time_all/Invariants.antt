use Rattle.std.proofs.Common.{◌==◌, filter, not, take}
use Rattle.std.specs.List.{starts_with}
use Rattle.vg_design.specs.Designs.{net_names}
use Rattle.mode_time.specs.Answers.{IsTimeSaid}
use Rattle.vg_answer.specs.Verdicts.{AreSaid}
use Rattle.mode_time.proofs.time.time_all.Given as goal

abbrev pub invariant-net : goal.invariant-net
invariant-net l =
    AreSaid (IsTimeSaid l.design l.prefix) (filter (λ name. not (starts_with ◌==◌ name l.prefix)) (take l.at (net_names l.design.spef))) l.kind l.to.items
