use Rattle.std.proofs.Common.{sym, ap, ◌∙◌}
use Rattle.spef_nodes.proofs.NodeTableLemmas.{node_get}
use Rattle.spef_nodes.proofs.nodes.Nodes.note.Goals as goal

pub returns : goal.returns
returns c = λ other. c.text.ensures ∙ sym (ap (λ n. n.note) (node_get c.self.inside.owners c.self.inside.leaves c.self.inside.notes c.args.self.now c.args.at other c.self.view_is c.requires))
