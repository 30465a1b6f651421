use Rattle.std.proofs.Common.{◌≡◌, ◌≤◌}
use Rattle.vg_num.specs.Printed.{scaled_text}
use Rattle.vg_num.proofs.print.without_zeros.Given as goal

abbrev pub invariant-zeros : goal.invariant-zeros
invariant-zeros l = record {
  same : scaled_text l.n l.places ≡ scaled_text l.digits l.kept;
  few : l.kept ≤ l.places;
}

abbrev pub decreases-zeros : goal.decreases-zeros
decreases-zeros l = l.kept
