use Rattle.spef_nodes.proofs.NodeReaderLemmas.{leads_interned}
use Rattle.spef_nodes.proofs.node_reader.NodeReader.intern.Goals as goal

pub invariant_of-self : goal.invariant_of-self
invariant_of-self c = leads_interned c.intern.result _ c.self.inside.net.now c.self.inside.nodes c.intern.new.self _ c.self.inside.prefix.now c.self.inside.numbers.items c.self.inside.known.items c.intern.ensures.nodes c.intern.ensures.unchanged c.self.invariant
