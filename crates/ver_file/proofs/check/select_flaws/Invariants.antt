use Rattle.std.proofs.Common.{◌≡◌, flat_map}
use Rattle.ver_file.specs.Firsts.{first_of}
use Rattle.ver_file.specs.Flaws.{select_flaws}
use Rattle.ver_file.proofs.check.select_flaws.Given as goal

abbrev pub invariant-name : goal.invariant-name
invariant-name g l = record {
  left : first_of l.first (flat_map (select_flaws l.scope.text.now) l.name-iterator) ≡ first_of l.initial.first (flat_map (select_flaws l.scope.text.now) l.initial.name-iterator);
}
