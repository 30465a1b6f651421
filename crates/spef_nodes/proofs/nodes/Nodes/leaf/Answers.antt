use Rattle.std.proofs.Common.{sym, ap, ◌∙◌}
use Rattle.spef_nodes.proofs.NodeTableLemmas.{node_get, within_both}
use Rattle.spef_nodes.proofs.nodes.Nodes.leaf.Goals as goal

pub get-requires : goal.get-requires
get-requires c = (within_both c.self.inside.owners c.self.inside.leaves c.self.inside.notes c.args.self.now c.args.at c.self.view_is c.requires).1

pub returns : goal.returns
returns c = λ other. c.get.ensures ∙ sym (ap (λ n. n.name.leaf) (node_get c.self.inside.owners c.self.inside.leaves c.self.inside.notes c.args.self.now c.args.at other c.self.view_is c.requires))
