use Rattle.std.proofs.Common.{not, sym, ap, ◌∙◌}
use Rattle.spef_nodes.proofs.NodeTableLemmas.{node_get}
use Rattle.spef_nodes.proofs.nodes.Nodes.is_inner.Goals as goal

pub returns : goal.returns
returns c = λ other. ap not c.is_joined.ensures ∙ sym (ap (λ n. n.inner) (node_get c.self.inside.owners c.self.inside.leaves c.self.inside.notes c.args.self.now c.args.at other c.self.view_is c.requires))
