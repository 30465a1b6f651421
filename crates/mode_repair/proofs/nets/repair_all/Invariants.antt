use Rattle.std.proofs.Common.{◌≡◌, take}
use Rattle.change_spef_laws.specs.Order.{AreOpenFrom}
use Rattle.vg_design.specs.Designs.{net_names}
use Rattle.mode_repair.specs.Steps.{AreRepaired}
use Rattle.mode_repair.proofs.nets.repair_all.Given as goal

abbrev pub invariant-net : goal.invariant-net
invariant-net l = record {
  repaired : AreRepaired l.design l.goal l.initial.all.judging.changes.prefix (take l.at (net_names l.design.spef)) l.all;
  design : l.all.judging.changes.design ≡ l.design;
  free : AreOpenFrom l.all.judging.changes l.at;
}
