use Rattle.std.proofs.Common.{◌≡◌, take}
use Rattle.spef_write.specs.Sections.{total}
use Rattle.spef_write.proofs.charge.charge_of.Given as goal

abbrev pub invariant-cap : goal.invariant-cap
invariant-cap l = l.sum ≡ total (take l.cap-index l.caps)
