use Rattle.std.proofs.Common.{◌≡◌, ℕ, ◌+◌, length, ap, ◌∙◌, arith}
use Rattle.vg_verdict.proofs.MadeLemmas.{count_more, few_here}
use Rattle.vg_verdict.proofs.count.count_pairs.Goals as goal

pub overflow_add-count-in-node : goal.overflow_add-count-in-node
overflow_add-count-in-node c =
    let here = c.index-lists-v.result in
    omega (
      arith,
      c.len.ensures,
      c.len-in-node.ensures,
      here.even.ok.0,
      here.odd.ok.0,
      few_here c.args.lists.now c.node.v here c.node-test.true c.index-lists-v.is c.requires.few,
      c.node.invariant.few,
      c.node-test.true,
      c.requires.nodes,
    )

pub node-preserved : goal.node-preserved
node-preserved c =
    let here = c.index-lists-v.result in
    let long : c.len.result + c.len-in-node.result ≡ length here.even.items + length here.odd.items
    = omega (arith, c.len.ensures, c.len-in-node.ensures, here.even.ok.0, here.odd.ok.0) in
    record {
      counted =
          ap (λ (n : ℕ). c.node.count + n) long
          ∙ count_more c.args.lists.now c.node.v here c.node-test.true c.index-lists-v.is c.node.count c.node.invariant.counted;
      few = omega (arith, long, few_here c.args.lists.now c.node.v here c.node-test.true c.index-lists-v.is c.requires.few, c.node.invariant.few);
    }
