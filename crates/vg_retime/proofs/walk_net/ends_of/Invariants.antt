use Rattle.std.proofs.Common.{◌≡◌, map, take}
use Rattle.vg_retime.specs.Passages.{end_in}
use Rattle.vg_retime.specs.WalkNets.{walk_end}
use Rattle.vg_retime.proofs.walk_net.ends_of.Given as goal

abbrev pub invariant-node : goal.invariant-node
invariant-node l = map walk_end l.ends.items ≡ map (end_in l.design l.prefix l.net.net) (take l.i l.order)
