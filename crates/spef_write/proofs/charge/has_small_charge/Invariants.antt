use Rattle.std.proofs.Common.{◌≡◌, ℕ, ◌≤◌, ◌^◌, take}
use Rattle.spef_write.specs.Sections.{total}
use Rattle.spef_write.proofs.charge.has_small_charge.Given as goal

-- so far the sum is small
pub record IsSmallTo (sum charge : ℕ) : Type 0 where
  pub is : charge ≡ sum
  pub small : charge ≤ 10 ^ 15

abbrev pub invariant-cap : goal.invariant-cap
invariant-cap l = IsSmallTo (total (take l.cap-index l.net.caps)) l.charge
