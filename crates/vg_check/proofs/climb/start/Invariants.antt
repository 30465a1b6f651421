use Rattle.std.proofs.Common.{◌≡◌, ◌<◌, ℕ, length}
use Rattle.cand_pairs.specs.Candidates.{NodeLists}
use Rattle.vg_check.specs.Parts.{IsPart, part_at}
use Rattle.vg_check.proofs.climb.start.Given as goal

abbrev pub invariant-nodes : goal.invariant-nodes
invariant-nodes l = record {
  count : length l.parts.items ≡ l.node;
  parts : (lists : NodeLists) (v : ℕ) → v < length l.parts.items → IsPart l.fn.p lists (length l.fn.p.tree.nodes) v (part_at l.parts.items v);
}
