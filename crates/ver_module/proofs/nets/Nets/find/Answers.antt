use Rattle.std.proofs.Common.{List, map, ap, subst, sym, ◌∙◌}
use Rattle.name_tables.specs.Distinct.{number_of}
use Rattle.ver_module.specs.declared.net.Identifier.{Identifier}
use Rattle.ver_module.specs.Names.{IsOnly, is_bit, is_scalar}
use Rattle.ver_module.specs.Netlists.{NetTable, nets_in, nets_with}
use Rattle.ver_module.proofs.FindLemmas.{first_of_both}
use Rattle.ver_module.proofs.nets.Nets.find.Goals as goal

pub returns : goal.returns
returns c =
    let names = c.self.inside.names in
    let name = c.args.name.now in
    c.earlier.ensures
    ∙ first_of_both names c.self.inside.identifiers.items c.self.inside.firsts.items c.self.inside.count c.self.invariant name
    c.find_scalar-scalar.result c.bit_named.result
    (subst (λ (is : List Identifier). IsOnly is_scalar (nets_with names is) name c.find_scalar-scalar.result) c.deref.ensures.value c.find_scalar-scalar.ensures)
    (subst (λ (t : NetTable). IsOnly is_bit (nets_in t) name c.bit_named.result) (sym c.self.view_is) c.bit_named.ensures)
    ∙ ap (λ t. number_of (map (λ net. net.name) (nets_in t)) name) c.self.view_is
