use Rattle.std.proofs.Common.{◌≡◌, length}
use Rattle.std.specs.List.{list_any}
use Rattle.ver_items.specs.Others.{is_of_others}
use Rattle.ver_items.proofs.others.have_others.Given as goal

abbrev pub invariant-row : goal.invariant-row
invariant-row g l = record {
  left : list_any is_of_others (g.T.Stretch.tokens l.rows) ≡ list_any is_of_others (g.T.Stretch.tokens l.left);
}

abbrev pub decreases-row : goal.decreases-row
decreases-row g l = length (g.T.Stretch.tokens l.left)
