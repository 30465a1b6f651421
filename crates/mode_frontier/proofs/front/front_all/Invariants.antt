use Rattle.std.proofs.Common.{take}
use Rattle.vg_design.specs.Designs.{net_names}
use Rattle.mode_frontier.specs.Answers.{IsFrontSaid}
use Rattle.vg_answer.specs.Verdicts.{AreSaid}
use Rattle.mode_frontier.proofs.front.front_all.Given as goal

abbrev pub invariant-net : goal.invariant-net
invariant-net l = AreSaid (IsFrontSaid l.design l.cap) (take l.at (net_names l.design.spef)) l.kind l.to.items
