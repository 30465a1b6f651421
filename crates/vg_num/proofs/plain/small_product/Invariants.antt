use Rattle.std.proofs.Common.{◌≡◌, ◌*◌, ◌^◌, ◌≤◌}
use Rattle.vg_num.proofs.plain.small_product.Given as goal

abbrev pub invariant-ten : goal.invariant-ten
invariant-ten l = (l.product ≡ l.value * 10 ^ l._turn) × (l.product ≤ 10 ^ 18)
