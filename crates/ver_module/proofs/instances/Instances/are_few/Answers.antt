use Rattle.std.proofs.Common.{◌<◌, ◌^◌, List, length, ap, subst, arith}
use Rattle.std.specs.List.{All}
use Rattle.ver_module.specs.Flat.{Tables}
use Rattle.ver_module.specs.Netlists.{Instance}
use Rattle.ver_module.proofs.InstanceLemmas.{count_instances, few_each}
use Rattle.ver_module.proofs.instances.Instances.are_few.Goals as goal

pub returns-clause-instances : goal.returns-clause-instances
returns-clause-instances c =
    let tables : Tables = record { cells = c.self.inside.cells; pin_names = c.self.inside.pin_names; many = c.self.inside.many.items; pins = c.self.inside.pins.items } in
    omega (arith, c.self.invariant.few, count_instances tables c.self.inside.names c.self.inside.rows.items c.self.invariant.count, ap length c.self.view_is)

pub returns-clause-pins : goal.returns-clause-pins
returns-clause-pins c =
    let tables : Tables = record { cells = c.self.inside.cells; pin_names = c.self.inside.pin_names; many = c.self.inside.many.items; pins = c.self.inside.pins.items } in
    subst (λ (is : List Instance). All (λ (i : Instance). length i.pins < 2 ^ 32) is) c.self.view_is
    (few_each tables c.self.inside.names c.self.inside.rows.items c.self.invariant.stand c.self.invariant.few_pins)
