use Rattle.std.proofs.Common.{◌≡◌, ◌++◌, flat_map, map, take}
use Rattle.mode_total.specs.Picked.{choice_in}
use Rattle.mode_total.specs.Steps.{kept_choice}
use Rattle.mode_total.proofs.print.print_choices.Given as goal

abbrev pub invariant-point : goal.invariant-point
invariant-point l =
    l.to.items ≡ l.initial.to.items ++ flat_map (kept_choice l.design l.nets) (take l.at (map (choice_in l.fronts) l.points))
