use Rattle.std.proofs.Common.{◌≤◌, ◌<◌, length, rules}
use Rattle.std.proofs.lemmas.List.Elements.{All-more}
use Rattle.ver_module.specs.Flat.{IsBounded}
use Rattle.ver_module.proofs.NetLemmas.{all_bounded, next_first, no_more}
use Rattle.ver_module.proofs.nets.numbered.Goals as goal

pub identifier-preserved : goal.identifier-preserved
identifier-preserved c =
    let less : c.identifier.identifier-index < length c.args.identifiers.now = search rules in
    record {
      numbers =
          next_first c.args.identifiers.now c.identifier.identifier-index c.identifier.count c.in-Some.next c.identifier.firsts.items c.push.new.self.items _
          less c.in-Some.ensures c.in_ok-push.ensures.items c.identifier.invariant.numbers;
      bounded = All-more IsBounded c.args.identifiers.now c.identifier.identifier-index _ less c.identifier.invariant.bounded c.is_bounded.ensures;
    }

pub returns-clause-firsts : goal.returns-clause-firsts
returns-clause-firsts c =
    let all : length c.args.identifiers.now ≤ c.identifier.identifier-index = search rules in
    (no_more c.args.identifiers.now c.identifier.identifier-index c.identifier.count c.identifier.firsts.items all c.identifier.invariant.numbers).0

pub returns-clause-count : goal.returns-clause-count
returns-clause-count c =
    let all : length c.args.identifiers.now ≤ c.identifier.identifier-index = search rules in
    (no_more c.args.identifiers.now c.identifier.identifier-index c.identifier.count c.identifier.firsts.items all c.identifier.invariant.numbers).1

pub returns-clause-bounded : goal.returns-clause-bounded
returns-clause-bounded c =
    let all : length c.args.identifiers.now ≤ c.identifier.identifier-index = search rules in
    all_bounded c.args.identifiers.now c.identifier.identifier-index all c.identifier.invariant.bounded
