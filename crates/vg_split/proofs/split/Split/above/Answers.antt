use Rattle.std.proofs.Common.{List, get_or, ap, ◌∙◌, arith}
use Rattle.elmore.specs.declared.tree.Node.{Node}
use Rattle.elmore.proofs.TreeLemmas.{parent_read}
use Rattle.vg_split.specs.Splits.{Split as SplitSpec}
use Rattle.vg_split.proofs.SplitLemmas.{falls}
use Rattle.vg_split.proofs.split.Split.above.Goals as goal

pub returns-clause-within : goal.returns-clause-within
returns-clause-within c =
    let d : Node = record { parent = 0; r = 0; c = 0 } in
    omega (
      arith,
      c.requires,
      ap (λ (nodes : List Node). (get_or nodes c.args.node d).parent) (c.as_slice.ensures ∙ ap (λ (x : SplitSpec). x.problem.tree.nodes) c.self.view_is),
      parent_read c.args.self.now.problem.tree.nodes c.args.node d c.requires,
      falls c.args.self.now c.args.node,
    )
