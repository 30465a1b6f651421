use Rattle.std.proofs.Common.{ℕ, ◌<◌, All}
use Rattle.vg_check.specs.Orders.{HasRep, IsRank}
use Rattle.vg_check.proofs.order.by_number.Given as goal

abbrev pub invariant-reps : goal.invariant-reps
invariant-reps l = record {
  each : All (IsRank l.p.reps) l.ranks.items;
  all : (b : ℕ) → b < l.rep → HasRep l.ranks.items b;
}
