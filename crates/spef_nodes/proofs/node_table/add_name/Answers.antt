use Rattle.std.proofs.Common.{[], ◌∷◌, ◌++◌, ap, ◌∙◌}
use Rattle.spef_nodes.specs.NodeTables.{nodes_in}
use Rattle.spef_nodes.proofs.NodeTableLemmas.{nodes_more}
use Rattle.spef_nodes.proofs.node_table.add_name.Goals as goal

pub returns-in-Ok-clause-last : goal.returns-in-Ok-clause-last
returns-in-Ok-clause-last c =
    ap (nodes_in c.push.new.self) c.in-Ok.ensures.last ∙ ap (λ os. nodes_in os (c.args.leaves.now ++ c.args.leaf.now ∷ [])) c.in_ok-push.ensures.last ∙ nodes_more c.args.owners.now c.args.leaves.now c.args.owner.now c.args.leaf.now c.requires
