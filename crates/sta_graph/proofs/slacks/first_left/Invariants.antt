use Rattle.std.proofs.Common.{ℕ, ◌<◌, ◌≡◌, get_or}
use Rattle.sta_graph.proofs.slacks.first_left.Given as goal

abbrev pub invariant-nets : goal.invariant-nets
invariant-nets l = (u : ℕ) → u < l.v → get_or l.counts u 0 ≡ 0
