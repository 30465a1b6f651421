use Rattle.spef_nodes.proofs.NodeReaderLemmas.{leads_owned}
use Rattle.spef_nodes.proofs.node_reader.NodeReader.own.Goals as goal

pub invariant_of-self : goal.invariant_of-self
invariant_of-self c = leads_owned c.own.result _ c.self.inside.net.now c.self.inside.nodes c.own.new.self _ c.self.inside.prefix.now c.self.inside.numbers.items c.self.inside.known.items c.own.ensures.owned c.own.ensures.unchanged c.self.invariant
