use Rattle.std.proofs.Common.{sym, rules}
use Rattle.vg_cert.proofs.FoundLemmas.{named_at, none_more}
use Rattle.vg_cert.proofs.names.find_node.Goals as goal

pub node-preserved : goal.node-preserved
node-preserved c =
    none_more c.args.nodes.now c.args.word.now c.args.from c.node.v c.node.invariant
    (named_at c.args.nodes.now c.node.v c.index-nodes-v.result _ c.args.word.now _ (search rules) (sym c.index-nodes-v.is) (search rules))
