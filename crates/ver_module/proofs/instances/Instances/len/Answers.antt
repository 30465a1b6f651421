use Rattle.std.proofs.Common.{◌≡◌, length, sym, ap, ◌∙◌, rules}
use Rattle.ver_module.proofs.InstanceLemmas.{count_instances}
use Rattle.ver_module.proofs.instances.Instances.len.Goals as goal

pub returns-clause-count : goal.returns-clause-count
returns-clause-count c =
    let e : c.len.result ≡ length c.self.inside.rows.items = search rules in
    e
    ∙ sym (count_instances (record { cells = c.self.inside.cells; pin_names = c.self.inside.pin_names; many = c.self.inside.many.items; pins = c.self.inside.pins.items }) c.self.inside.names c.self.inside.rows.items c.self.invariant.count)
    ∙ ap length c.self.view_is
