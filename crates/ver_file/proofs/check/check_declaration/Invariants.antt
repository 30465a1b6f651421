use Rattle.std.proofs.Common.{◌≡◌, flat_map, length}
use Rattle.ver_items.specs.Declarations.{declared_of}
use Rattle.ver_file.specs.Firsts.{declared_at, first_of}
use Rattle.ver_file.specs.Flaws.{direction_flaws, range_flaws}
use Rattle.ver_file.proofs.check.check_declaration.Given as goal

abbrev pub invariant-row : goal.invariant-row
invariant-row g l = record {
  clash :
      first_of l.firsts.clash (flat_map (range_flaws (declared_of l.scope.text.now)) (declared_at l.scope.text.now l.heading (g.T.Stretch.tokens l.left)))
      ≡ first_of l.initial.firsts.clash (flat_map (range_flaws (declared_of l.scope.text.now)) (declared_at l.scope.text.now l.heading l.declaration.body));
  twice : l.firsts.twice ≡ l.initial.firsts.twice;
  grammar :
      first_of l.firsts.grammar (flat_map (direction_flaws (declared_of l.scope.text.now)) (declared_at l.scope.text.now l.heading (g.T.Stretch.tokens l.left)))
      ≡ first_of l.initial.firsts.grammar (flat_map (direction_flaws (declared_of l.scope.text.now)) (declared_at l.scope.text.now l.heading l.declaration.body));
}

abbrev pub decreases-row : goal.decreases-row
decreases-row g l = length (g.T.Stretch.tokens l.left)
