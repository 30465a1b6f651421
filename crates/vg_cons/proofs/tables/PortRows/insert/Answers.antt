use Rattle.std.proofs.Common.{not, is_some, ◌∙◌, ap}
use Rattle.vg_scan.specs.Nodes.{node_value}
use Rattle.vg_cons.specs.Names.{port_value}
use Rattle.vg_cons.proofs.RowLemmas.{port_is}
use Rattle.vg_cons.proofs.tables.PortRows.insert.Goals as goal

pub returns-clause-fresh : goal.returns-clause-fresh
returns-clause-fresh g c =
    c.in_ok-fresh.ensures.fresh
    ∙ ap (λ value. not (is_some value)) (ap (node_value c.self.inside.rows) c.node_of.ensures
    ∙ port_is c.self.inside.rows c.args.port.now c.self.invariant ∙ ap (λ rows. port_value rows c.args.port.now) c.self.view_is)
