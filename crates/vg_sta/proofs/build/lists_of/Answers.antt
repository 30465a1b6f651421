use Rattle.std.proofs.Common.{arith}
use Rattle.vg_sta.proofs.AddLemmas.{none_listed}
use Rattle.vg_sta.proofs.build.lists_of.Goals as goal

pub section-init : goal.section-init
section-init c = record {
  listed = none_listed c.args.design.now c.in_ok-lists.lists c.in_ok-lists.ensures.arrivals c.in_ok-lists.ensures.sinks c.in_ok-lists.ensures.leads c.in_ok-lists.ensures.nodes;
  room = (let room = c.in_ok-scratch.ensures in omega (arith, room));
}
