use Rattle.std.proofs.Common.{◌≡◌}
use Rattle.elmore.specs.Allowances.{all_allowed}
use Rattle.elmore.proofs.allowed.Allowed.everywhere.Given as goal

abbrev pub invariant-nodes : goal.invariant-nodes
invariant-nodes l = l.allowed.items ≡ all_allowed l.counter
