use Rattle.std.proofs.Common.{◌+◌, ◌-◌, length}
use Rattle.std.specs.Vec.{vec_capacity}
use Rattle.vg_front.specs.Seen.{stairs_of}
use Rattle.vg_front.proofs.ListLemmas.{IsBlending}
use Rattle.vg_front.proofs.list.blend.Given as goal

abbrev pub invariant-turns : goal.invariant-turns
invariant-turns l = IsBlending l.fn.arena l.xs l.ys l.i l.j l.stairs.cost (stairs_of l.stairs) l.all.items (vec_capacity l.all) l.arena

abbrev pub decreases-turns : goal.decreases-turns
decreases-turns l = (length l.xs - l.i) + (length l.ys - l.j)
