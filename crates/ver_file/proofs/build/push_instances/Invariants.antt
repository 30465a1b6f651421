use Rattle.std.proofs.Common.{◌≡◌, ◌++◌, map}
use Rattle.ver_file.specs.Netlists.{instance_of}
use Rattle.ver_file.proofs.build.push_instances.Given as goal

abbrev pub invariant-instance : goal.invariant-instance
invariant-instance g l = record {
  left :
      l.to ++ map (instance_of l.scope.text.now l.item.head) l.instance-iterator
      ≡ l.initial.to ++ map (instance_of l.scope.text.now l.item.head) l.initial.instance-iterator;
}
