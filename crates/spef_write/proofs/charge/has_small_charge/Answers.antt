use Rattle.std.proofs.Common.{◌≡◌, ℕ, ◌+◌, ◌<◌, ◌≤◌, ◌^◌, nat_le, false, ap, arith, take, get_or}
use Rattle.std.proofs.lemmas.Bool.Decides.{nat_tests}
use Rattle.std.proofs.lemmas.List.Sums.{sum_by_more_le}
use Rattle.spef_write.specs.Sections.{total}
use Rattle.spef_write.proofs.charge.has_small_charge.Goals as goal

above : (n most : ℕ) → most < n → false ≡ nat_le n most
above n most l = grind (arith, nat_tests)

pub returns-then-cap-charge : goal.returns-then-cap-charge
returns-then-cap-charge c =
    let caps = c.args.net.now.caps in
    let rows = c.as_slice-cap-items.result.now in
    let i = c.cap.cap-index in
    let same : total rows ≡ total caps = ap total c.as_slice-cap-items.ensures in
    let before : total (take i rows) ≡ total (take i caps) = ap (λ xs. total (take i xs)) c.as_slice-cap-items.ensures in
    let more : total (take i rows) + (get_or rows i (0, 0)).1 ≤ total rows = sum_by_more_le (λ (cap : ℕ × ℕ). cap.1) rows i (0, 0) c.cap-test.true in
    above (total caps) (10 ^ 15) (omega (arith, same, before, more, c.cap.invariant.is, c.if-cap-charge.true))
