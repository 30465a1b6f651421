use Rattle.std.proofs.Common.{◌≤◌, length, ap, subst, arith}
use Rattle.std.proofs.lemmas.List.{length-map}
use Rattle.ver_module.specs.Names.{AreApart}
use Rattle.ver_syntax.specs.declared.row.Row.{Row}
use Rattle.ver_file.specs.Nets.{tokens_of_nets}
use Rattle.ver_file.proofs.ClashLemmas.{all_found, found_more, none_found}
use Rattle.ver_file.proofs.NetLemmas.{table_nets}
use Rattle.ver_file.proofs.nets.first_clash.Goals as goal

pub identifier-init : goal.identifier-init
identifier-init c = record { found = none_found c.args.scope.now.text.now }

pub identifier-preserved : goal.identifier-preserved
identifier-preserved c = record {
  found =
      found_more c.args.scope.now.text.now c.identifier.at c.identifier.first c.clash_at.result c.earlier_of-first.result c.identifier.invariant.found c.clash_at.ensures
      c.earlier_of-first.ensures;
}

pub returns : goal.returns
returns c =
    let text = c.args.scope.now.text.now in
    let all : length (tokens_of_nets text) ≤ c.identifier.at = omega (arith, c.identifier-test.false, ap length c.requires.froms, length-map (tokens_of_nets text) (λ (r : Row). r.from)) in
    all_found text (subst AreApart (table_nets text c.args.scope.now.nets.now c.requires.table) c.are_apart.ensures) c.identifier.at c.identifier.first all c.identifier.invariant.found
