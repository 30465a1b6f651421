use Rattle.sta_graph.proofs.CycleLaws.{left_after_cycle, ready_no_cycle, whole_no_cycle}
use Rattle.sta_graph.proofs.TimeLaws.{least_through, one_slack}
use Rattle.sta_graph.proofs.laws.path_laws.Goals as goal

pub returns-clause-left : goal.returns-clause-left
returns-clause-left c = λ g order v p l. left_after_cycle g order v p l

pub returns-clause-ready : goal.returns-clause-ready
returns-clause-ready c = λ g order v p r. ready_no_cycle g order v p.in_order r

pub returns-clause-ordered : goal.returns-clause-ordered
returns-clause-ordered c = λ g order v w. whole_no_cycle g order v w

pub returns-clause-slack : goal.returns-clause-slack
returns-clause-slack c = λ g v a r la er. least_through g v a r la er

pub returns-clause-one : goal.returns-clause-one
returns-clause-one c = λ g v x y a b. one_slack g v x y a b
