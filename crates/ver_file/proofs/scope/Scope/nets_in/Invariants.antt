use Rattle.std.proofs.Common.{◌≡◌, ◌++◌, flat_map}
use Rattle.ver_file.specs.Netlists.{nets_named}
use Rattle.ver_file.proofs.scope.Scope.nets_in.Given as goal

abbrev pub invariant-name : goal.invariant-name
invariant-name g l = record {
  left :
      l.nets ++ flat_map (nets_named l.self.text.now) l.name-iterator
      ≡ l.initial.nets ++ flat_map (nets_named l.self.text.now) l.initial.name-iterator;
}
