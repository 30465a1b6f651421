use Rattle.std.proofs.Common.{◌∙◌, arith}
use Rattle.vg_design.proofs.EndLemmas.{table_more}
use Rattle.vg_design.proofs.ends.table_of.Goals as goal

pub end-preserved : goal.end-preserved
end-preserved c =
    c.in_ok-intern.ensures.nodes
    ∙ table_more c.args.net.now c.end.at (omega (arith, c.end-test.true, c.len-count.ensures)) c.end.table c.owner.result.now c.leaf.result.now c.end.invariant c.owner.ensures c.leaf.ensures
