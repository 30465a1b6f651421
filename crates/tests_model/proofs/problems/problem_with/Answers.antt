use Rattle.std.proofs.Common.{length, ◌≡◌, ap, arith}
use Rattle.tests_model.proofs.problems.problem_with.Goals as goal

pub new-requires-clause-allowed : goal.new-requires-clause-allowed
new-requires-clause-allowed c =
    let nodes : length c.in_ok-tree.tree.nodes ≡ length c.args.nodes.now = ap length c.in_ok-tree.ensures in
    let allowances = c.requires (length c.from_vec-reps.result) in
    record { one_each = omega (arith, nodes, allowances.one_each); rising = allowances.rising; named = allowances.named }
