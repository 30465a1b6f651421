use Rattle.std.proofs.Common.{take}
use Rattle.spef_write.proofs.OnceLemmas.{AreNamed}
use Rattle.spef_write.proofs.charge.cap_nodes.Given as goal

abbrev pub invariant-cap : goal.invariant-cap
invariant-cap l = AreNamed l.count (take l.cap-index l.caps) l.named.items l.nodes.items
