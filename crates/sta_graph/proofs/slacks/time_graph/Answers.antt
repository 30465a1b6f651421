use Rattle.sta_graph.proofs.CycleLaws.{whole_no_cycle}
use Rattle.sta_graph.proofs.slacks.time_graph.Goals as goal

pub returns-in-Ok-clause-no_cycle : goal.returns-in-Ok-clause-no_cycle
returns-in-Ok-clause-no_cycle c = λ v. whole_no_cycle c.args.g.now c.in_ok-order.order.items v c.in_ok-order.ensures.order
