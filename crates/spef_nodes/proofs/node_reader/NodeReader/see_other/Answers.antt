use Rattle.spef_nodes.proofs.NodeReaderLemmas.{seen_known}
use Rattle.spef_nodes.proofs.node_reader.NodeReader.see_other.Goals as goal

pub returns-in-Some-clause-seen : goal.returns-in-Some-clause-seen
returns-in-Some-clause-seen c = seen_known c.args.self.now.net c.args.self.now.nodes c.in-Some.id _ c.in-Some.ensures.named c.in-Some.ensures.within
