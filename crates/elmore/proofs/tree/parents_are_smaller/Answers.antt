use Rattle.std.proofs.Common.{arith, ◌<◌, length}
use Rattle.std.proofs.lemmas.Bool.{false≢true}
use Rattle.elmore.proofs.TreeLemmas.{parent_read}
use Rattle.elmore.proofs.tree.parents_are_smaller.Goals as goal

pub returns-then-nodes-v : goal.returns-then-nodes-v
returns-then-nodes-v c =
    let v_n : c.children.v < length c.args.nodes.now = omega arith in (
      λ f. absurd (false≢true f),
      λ smaller. absurd (omega (arith, smaller c.children.v, parent_read c.args.nodes.now c.children.v (record { parent = 0; r = 0; c = 0 }))),
    )
