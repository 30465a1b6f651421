use Rattle.std.proofs.Common.{◌<◌, List, length, sym, ap, subst, arith}
use Rattle.std.proofs.lemmas.List.{get_or_default}
use Rattle.elmore.specs.Trees.{parent_of}
use Rattle.elmore.specs.declared.tree.Node.{Node}
use Rattle.vg_split.proofs.stages.parent_of.Goals as goal

pub returns-clause-less : goal.returns-clause-less
returns-clause-less c =
    let within : c.args.node < length c.as_slice.result.now
    = subst (λ (nodes : List Node). c.args.node < length nodes) (sym c.as_slice.ensures) c.requires.node in
    omega (
      arith,
      c.args.p.now.tree.a_tree.smaller c.args.node c.requires.some c.requires.node,
      ap (λ (nodes : List Node). parent_of nodes c.args.node) c.as_slice.ensures,
      ap (λ (node : Node). node.parent) (get_or_default c.as_slice.result.now c.args.node (record { parent = 0; r = 0; c = 0 })
          (record { parent = c.args.node; r = 0; c = 0 }) within),
    )
