use Rattle.std.proofs.Common.{◌≡◌, ◌≤◌, ◌<◌, ℕ, false}
use Rattle.vg_cert.specs.Readings.{is_named}
use Rattle.vg_cert.proofs.names.find_node.Given as goal

abbrev pub invariant-node : goal.invariant-node
invariant-node l = (u : ℕ) → l.from ≤ u → u < l.v → is_named l.word l.nodes u ≡ false
