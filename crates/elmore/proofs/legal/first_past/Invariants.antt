use Rattle.std.proofs.Common.{ℕ, ◌<◌}
use Rattle.elmore.specs.Legal.{IsLegalAt}
use Rattle.elmore.specs.Placements.{load_of}
use Rattle.elmore.proofs.legal.first_past.Given as goal

abbrev pub invariant-nodes : goal.invariant-nodes
invariant-nodes l = (k : ℕ) → k < l.v → IsLegalAt l.p l.cells (load_of l.p l.cells) k
