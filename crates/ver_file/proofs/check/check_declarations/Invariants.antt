use Rattle.std.proofs.Common.{◌≡◌, flat_map}
use Rattle.ver_items.specs.Declarations.{declared_in, declared_of}
use Rattle.ver_file.specs.Firsts.{first_of}
use Rattle.ver_file.specs.Flaws.{direction_flaws, range_flaws}
use Rattle.ver_file.proofs.check.check_declarations.Given as goal

abbrev pub invariant-declaration : goal.invariant-declaration
invariant-declaration g l = record {
  clash :
      first_of l.firsts.clash (flat_map (range_flaws (declared_of l.scope.text.now)) (flat_map (declared_in l.scope.text.now) l.declaration-iterator))
      ≡ first_of l.initial.firsts.clash (flat_map (range_flaws (declared_of l.scope.text.now)) (flat_map (declared_in l.scope.text.now) l.initial.declaration-iterator));
  twice : l.firsts.twice ≡ l.initial.firsts.twice;
  grammar :
      first_of l.firsts.grammar (flat_map (direction_flaws (declared_of l.scope.text.now)) (flat_map (declared_in l.scope.text.now) l.declaration-iterator))
      ≡ first_of l.initial.firsts.grammar (flat_map (direction_flaws (declared_of l.scope.text.now)) (flat_map (declared_in l.scope.text.now) l.initial.declaration-iterator));
}
