use Rattle.std.proofs.Common.{◌≡◌, length}
use Rattle.ver_file.specs.Bodies.{end_in}
use Rattle.ver_file.proofs.build.end_in.Given as goal

abbrev pub invariant-row : goal.invariant-row
invariant-row g l = record { left : end_in (g.T.Stretch.tokens l.rows) ≡ end_in (g.T.Stretch.tokens l.left) }

abbrev pub decreases-row : goal.decreases-row
decreases-row g l = length (g.T.Stretch.tokens l.left)
