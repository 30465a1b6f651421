use Rattle.spef_nodes.specs.Members.{node_named}
use Rattle.spef_nodes.proofs.NodeReaderLemmas.{seen_there}
use Rattle.spef_nodes.proofs.node_reader.NodeReader.see_inner.Goals as goal

pub returns-in-Some-clause-seen : goal.returns-in-Some-clause-seen
returns-in-Some-clause-seen c = seen_there c.args.self.now.net c.args.self.now.nodes c.in-Some.id (node_named c.args.self.now.net c.args.leaf.now) (c.in-Some.ensures.named c.args.leaf.now c.requires)
