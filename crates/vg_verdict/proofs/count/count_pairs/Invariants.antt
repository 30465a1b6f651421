use Rattle.std.proofs.Common.{◌≡◌, ◌≤◌, ◌*◌, ◌^◌}
use Rattle.vg_cert.specs.Fits.{lists_in}
use Rattle.vg_verdict.specs.Judged.{pairs_in}
use Rattle.vg_verdict.proofs.count.count_pairs.Given as goal

abbrev pub invariant-node : goal.invariant-node
invariant-node l = record { counted : l.count ≡ pairs_in (lists_in l.lists) l.v; few : l.count ≤ l.v * 2 ^ 29 }
