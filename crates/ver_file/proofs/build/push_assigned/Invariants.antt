use Rattle.std.proofs.Common.{◌≡◌, ◌++◌, flat_map}
use Rattle.ver_file.specs.Netlists.{nets_named}
use Rattle.ver_file.proofs.build.push_assigned.Given as goal

abbrev pub invariant-name : goal.invariant-name
invariant-name g l = record {
  left :
      l.to ++ flat_map (nets_named l.scope.text.now) l.name-iterator
      ≡ l.initial.to ++ flat_map (nets_named l.scope.text.now) l.initial.name-iterator;
}
