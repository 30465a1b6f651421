use Rattle.std.proofs.Common.{◌≡◌, ◌++◌, map, take, drop}
use Rattle.vg_front.specs.Held.{carried_by}
use Rattle.vg_front.proofs.list.carry.Given as goal

abbrev pub invariant-candidates : goal.invariant-candidates
invariant-candidates l = l.list.items ≡ map (carried_by l.r l.load) (take l.at l.fn.list.items) ++ drop l.at l.fn.list.items
