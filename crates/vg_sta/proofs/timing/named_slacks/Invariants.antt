use Rattle.std.proofs.Common.{◌≡◌, map, take}
use Rattle.vg_design.specs.Designs.{net_names}
use Rattle.vg_sta.proofs.timing.named_slacks.Given as goal

abbrev pub invariant-section : goal.invariant-section
invariant-section l = record {
  names : map (λ n. n.net) l.nets.items ≡ take l.at (net_names l.design.spef);
  slacks : map (λ n. n.slack) l.nets.items ≡ take l.at l.slacks;
}
