use Rattle.spef_nodes.proofs.NodeReaderLemmas.{leads_more}
use Rattle.spef_nodes.proofs.node_reader.NodeReader.add_inner.Goals as goal

pub invariant_of-self-2 : goal.invariant_of-self-2
invariant_of-self-2 c = leads_more _ c.self.inside.net.now c.self.inside.nodes c.intern.new.self _ c.self.inside.prefix.now c.self.inside.numbers.items c.self.inside.known.items c.in-Ok.ensures.nodes c.self.invariant
