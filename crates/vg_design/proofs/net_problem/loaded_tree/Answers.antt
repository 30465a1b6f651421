use Rattle.std.proofs.Common.{List, sym, ◌∙◌, subst}
use Rattle.elmore.specs.Trees.{IsTree}
use Rattle.elmore.specs.declared.tree.Node.{Node}
use Rattle.vg_design.proofs.PartLemmas.{is_small, loaded_is_tree}
use Rattle.vg_design.proofs.net_problem.loaded_tree.Goals as goal

pub loaded_nodes-requires-clause-small : goal.loaded_nodes-requires-clause-small
loaded_nodes-requires-clause-small c = is_small c.args.design.now c.args.net.now.net c.args.net.now.pins c.args.tree.now c.args.order.now c.requires.ready

pub invariant_of-result : goal.invariant_of-result
invariant_of-result c =
    record { a_tree = subst (λ (tree : List Node). IsTree tree) (sym (c.from_vec.ensures ∙ c.in_ok-nodes.ensures)) (loaded_is_tree c.args.design.now c.args.net.now.net c.args.net.now.pins c.args.tree.now c.args.order.now c.requires.ready) }
