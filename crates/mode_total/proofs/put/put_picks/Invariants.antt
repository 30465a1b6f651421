use Rattle.std.proofs.Common.{◌≡◌, take, zip}
use Rattle.mode_total.specs.Picked.{picks_in}
use Rattle.mode_total.specs.Steps.{AreOpenBehind, ArePutInto}
use Rattle.mode_total.proofs.put.put_picks.Given as goal

abbrev pub invariant-net : goal.invariant-net
invariant-net l = record {
  put : ArePutInto l.design (take l.at (zip l.nets (picks_in l.fronts l.picks))) l.initial.all l.all l.changed;
  design : l.all.design ≡ l.design;
  free : AreOpenBehind l.nets l.at l.all;
}
