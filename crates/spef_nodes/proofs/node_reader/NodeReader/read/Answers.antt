use Rattle.spef_nodes.proofs.NodeReaderLemmas.{owned_within}
use Rattle.spef_nodes.proofs.node_reader.NodeReader.read.Goals as goal

pub keep-requires-clause-within : goal.keep-requires-clause-within
keep-requires-clause-within c = owned_within c.learn.new.self.net c.learn.new.self.nodes c.own.new.self.nodes _ c.in-Ok-Some.id (rw c.in-Ok-Some.field-0-is at c.in-Ok-Some.ensures.owned)
