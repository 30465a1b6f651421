use Rattle.std.proofs.Common.{◌≡◌, length}
use Rattle.ver_file.specs.Firsts.{first_of, port_flaws_among}
use Rattle.ver_file.proofs.check.port_flaws.Given as goal

abbrev pub invariant-row : goal.invariant-row
invariant-row g l = record {
  left : first_of l.first (port_flaws_among l.scope.text.now (g.T.Stretch.tokens l.left)) ≡ first_of l.initial.first (port_flaws_among l.scope.text.now (g.T.Stretch.tokens l.rows));
}

abbrev pub decreases-row : goal.decreases-row
decreases-row g l = length (g.T.Stretch.tokens l.left)
