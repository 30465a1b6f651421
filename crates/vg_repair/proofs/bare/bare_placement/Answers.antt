use Rattle.std.proofs.Common.{◌∙◌}
use Rattle.vg_slack.proofs.BestLemmas.{one_bare}
use Rattle.vg_repair.proofs.bare.bare_placement.Goals as goal

pub returns-then-not-is_good : goal.returns-then-not-is_good
returns-then-not-is_good c = λ x.
    one_bare c.args.p.now c.in_ok-placement.placement.cells x (c.in_ok-placement.ensures.one_each ∙ c.len-n.ensures)
    c.in_ok-placement.ensures.no_cell (λ good. c.if-not-is_good.ensures.good good.good)
