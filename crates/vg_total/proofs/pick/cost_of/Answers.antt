use Rattle.std.proofs.Common.{rules}
use Rattle.vg_total.proofs.PickLemmas.{cost_one, cost_small}
use Rattle.vg_total.proofs.pick.cost_of.Goals as goal

pub nets-preserved : goal.nets-preserved
nets-preserved c = record {
  sum =
      cost_one c.args.fronts.now c.args.picks.now c.nets.k c.nets.cost c.from-cost.result c.picked.result.now c.nets.invariant.sum c.picked.ensures
      c.from-cost.ensures;
  small = cost_small c.nets.k c.nets.cost c.from-cost.result c.nets.invariant.small (search rules);
}
