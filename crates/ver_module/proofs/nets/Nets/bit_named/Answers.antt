use Rattle.std.proofs.Common.{List, subst}
use Rattle.ver_module.specs.declared.net.Identifier.{Identifier}
use Rattle.ver_module.specs.Netlists.{NetTable, nets_in, nets_with}
use Rattle.ver_module.specs.Names.{IsOnly, is_bit}
use Rattle.ver_module.proofs.nets.Nets.bit_named.Goals as goal

pub returns : goal.returns
returns c =
    let names = c.self.inside.names in
    let name = c.args.name.now in
    subst (λ (t : NetTable). IsOnly is_bit (nets_in t) name c.find_bit.result) c.self.view_is
    (subst (λ (is : List Identifier). IsOnly is_bit (nets_with names is) name c.find_bit.result) c.deref.ensures.value c.find_bit.ensures)
