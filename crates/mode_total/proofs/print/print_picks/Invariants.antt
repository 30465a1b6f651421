use Rattle.std.proofs.Common.{◌≡◌, ◌++◌, flat_map, take, zip}
use Rattle.mode_total.specs.Picked.{picks_in}
use Rattle.mode_total.specs.Steps.{kept_report}
use Rattle.mode_total.proofs.print.print_picks.Given as goal

abbrev pub invariant-net : goal.invariant-net
invariant-net l =
    l.to.items ≡ l.initial.to.items ++ flat_map (kept_report l.design) (take l.at (zip l.nets (picks_in l.fronts l.picks)))
