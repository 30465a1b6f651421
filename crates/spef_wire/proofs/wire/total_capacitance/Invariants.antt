use Rattle.std.proofs.Common.{◌≡◌, ◌*◌, ◌^◌, ◌≤◌, take}
use Rattle.std.specs.List.{sum_by}
use Rattle.spef_wire.proofs.wire.total_capacitance.Given as goal

abbrev pub invariant-capacitor : goal.invariant-capacitor
invariant-capacitor l = record { total : l.total ≡ sum_by (λ cap. cap.1) (take l.cap-index l.caps); bound : l.total ≤ 2 ^ 64 * l.cap-index }
