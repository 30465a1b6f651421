use Rattle.std.proofs.Common.{ℕ, ◌<◌, ◌≤◌, length}
use Rattle.elmore.specs.Cells.{rep_at}
use Rattle.vg_cert.specs.Fits.{list_of as entries_of}
use Rattle.vg_check.specs.Hulls.{AreWithin, IsHull}
use Rattle.vg_check.specs.Orders.{rank_at}
use Rattle.vg_check.proofs.CoverLemmas.{CoversBefore}
use Rattle.vg_check.proofs.cover.covers_from.Given as goal

abbrev pub invariant-reps : goal.invariant-reps
invariant-reps l = record {
  hull : IsHull l.pairs l.hull.next l.hull.points.items;
  within : (k : ℕ) → l.at ≤ k → k < length l.order
      → AreWithin (rep_at l.p.reps (rank_at l.order k).rep).limit l.pairs l.hull.next;
  covers : CoversBefore l.p l.fn.node l.odd l.pairs (entries_of l.lists) l.order l.at;
}
