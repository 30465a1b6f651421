use Rattle.std.proofs.Common.{◌≡◌, flat_map, fold, map}
use Rattle.name_tables.specs.Distinct.{with_name}
use Rattle.ver_file.specs.Firsts.{first_of, named_by}
use Rattle.ver_file.specs.Flaws.{connection_flaws, named, repeated}
use Rattle.ver_file.proofs.check.check_instances.Given as goal

abbrev pub invariant-instance : goal.invariant-instance
invariant-instance g l = record {
  names :
      fold with_name l.seen.instances (map (named_by l.scope.text.now) l.instance-iterator)
      ≡ fold with_name l.initial.seen.instances (map (named_by l.scope.text.now) l.initial.instance-iterator);
  twice :
      first_of l.twice (repeated l.seen.instances (map (named l.scope.text.now) l.instance-iterator))
      ≡ first_of l.initial.twice (repeated l.initial.seen.instances (map (named l.scope.text.now) l.initial.instance-iterator));
  grammar :
      first_of l.grammar (flat_map (connection_flaws l.scope.text.now) l.instance-iterator)
      ≡ first_of l.initial.grammar (flat_map (connection_flaws l.scope.text.now) l.initial.instance-iterator);
}
