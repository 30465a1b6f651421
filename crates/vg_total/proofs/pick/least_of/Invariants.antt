use Rattle.vg_total.specs.Totals.{IsLeastOf}
use Rattle.vg_total.specs.Picks.{picked_by}
use Rattle.vg_total.proofs.pick.least_of.Given as goal

abbrev pub invariant-nets : goal.invariant-nets
invariant-nets l = IsLeastOf l.k (picked_by l.fronts l.picks) l.least
