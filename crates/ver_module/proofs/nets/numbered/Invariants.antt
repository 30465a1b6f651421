use Rattle.std.proofs.Common.{◌≡◌, ◌+◌, ◌++◌, drop, take}
use Rattle.std.specs.List.{All}
use Rattle.ver_module.specs.Flat.{IsBounded, count_in, firsts_of}
use Rattle.ver_module.proofs.nets.numbered.Given as goal

abbrev pub invariant-identifier : goal.invariant-identifier
invariant-identifier l = record {
  numbers :
      (firsts_of 0 l.identifiers ≡ l.firsts.items ++ firsts_of l.count (drop l.identifier-index l.identifiers))
      × (count_in l.identifiers ≡ l.count + count_in (drop l.identifier-index l.identifiers));
  bounded : All IsBounded (take l.identifier-index l.identifiers);
}
