use Rattle.std.proofs.Common.{◌≡◌, ◌++◌, Some, drop, map}
use Rattle.ver_module.specs.Ranges.{bits_from}
use Rattle.ver_file.specs.Netlists.{number_of_bit}
use Rattle.ver_file.proofs.scope.Scope.push_bits.Given as goal

abbrev pub invariant-turn : goal.invariant-turn
invariant-turn l = record {
  left :
      l.to ++ map (number_of_bit l.self.text.now l.found.name.now) (map Some (drop l.at (bits_from l.range)))
      ≡ l.initial.to ++ map (number_of_bit l.self.text.now l.found.name.now) (map Some (bits_from l.range));
}
