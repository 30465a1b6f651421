use Rattle.std.proofs.Common.{◌≡◌, length}
use Rattle.ver_items.specs.Begins.{begins}
use Rattle.ver_items.specs.Sections.{sections}
use Rattle.ver_items.proofs.section.first_section.Given as goal

abbrev pub invariant-row : goal.invariant-row
invariant-row g l = record {
  left : sections (begins l.begin) (g.T.Stretch.tokens l.initial.rows) ≡ sections (begins l.begin) (g.T.Stretch.tokens l.rows);
}

abbrev pub decreases-row : goal.decreases-row
decreases-row g l = length (g.T.Stretch.tokens l.rows)
