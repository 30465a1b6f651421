use Rattle.std.proofs.Common.{ℕ, ◌<◌, get_or}
use Rattle.elmore.specs.Allowances.{Allows}
use Rattle.vg_convex.specs.declared.shelf.Driver.{Driver}
use Rattle.vg_convex.proofs.drive.allows_any.Given as goal

abbrev pub invariant-drivers : goal.invariant-drivers
invariant-drivers l = (i : ℕ) (d : Driver) → i < l.driver-index → Allows l.allowed (get_or l.drivers i d).rep → ⊥
