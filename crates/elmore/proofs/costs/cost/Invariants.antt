use Rattle.std.proofs.Common.{◌≡◌, ◌*◌, ◌≤◌, ◌^◌, take}
use Rattle.std.specs.List.{sum_by}
use Rattle.elmore.specs.Cells.{rep_of, cell_cost}
use Rattle.elmore.proofs.costs.cost.Given as goal

abbrev pub invariant-cells : goal.invariant-cells
invariant-cells l = record {
  sum : sum_by (λ cell. cell_cost (rep_of l.reps cell)) (take l.cell-index l.cell-items) ≡ l.sum;
  small : l.sum ≤ l.cell-index * 10 ^ 12;
}
