use Rattle.std.proofs.Common.{ℕ, ◌<◌}
use Rattle.rc_tree.specs.Search.{IsSeen}
use Rattle.rc_tree.proofs.search.first_unseen.Given as goal

abbrev pub invariant-nodes : goal.invariant-nodes
invariant-nodes l = (u : ℕ) → u < l.v → IsSeen l.ranks u
