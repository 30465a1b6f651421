use Rattle.std.proofs.Common.{◌∙◌, ap}
use Rattle.vg_scan.specs.Nodes.{has_node}
use Rattle.vg_cons.specs.Named.{named}
use Rattle.vg_cons.proofs.RowLemmas.{found_has}
use Rattle.vg_cons.proofs.tables.NodeSet.contains.Goals as goal

pub returns-then-self-gt0 : goal.returns-then-self-gt0
returns-then-self-gt0 c =
    c.is_some.ensures ∙ found_has c.find.result c.self.inside.nodes (named c.args.node) c.find.ensures.found c.find.ensures.absent
    ∙ ap (λ nodes. has_node nodes (named c.args.node)) c.self.view_is
