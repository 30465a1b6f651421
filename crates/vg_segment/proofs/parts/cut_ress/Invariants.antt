use Rattle.std.proofs.Common.{◌≡◌, ◌+◌, ◌-◌, ◌*◌, take}
use Rattle.vg_segment.specs.Segments.{chains}
use Rattle.vg_segment.proofs.parts.cut_ress.Given as goal

abbrev pub invariant-res : goal.invariant-res
invariant-res l = record {
  cut : l.cut.items ≡ chains l.parts l.first (take l.res-index l.ress);
  next : l.next ≡ l.first + l.res-index * (l.parts - 1);
}
