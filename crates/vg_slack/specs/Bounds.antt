-- How long the lists of a search are where wires have one width: in each class a node has at most one candidate for
-- each sink at it or below, and one for each repeater at each place at it or below.
use Rattle.std.specs.Prelude.{◌≡◌, ℕ, ◌+◌, ◌≤◌, Bool, List, length}
use Rattle.std.specs.List.{sum_by}
use Rattle.elmore.specs.Problems.{is_sink}
use Rattle.elmore.specs.Trees.{parent_of}
use Rattle.elmore.specs.Wire.{downstream}
use Rattle.elmore.specs.declared.problem.Problem.{Problem}
use Rattle.sol_arena.specs.Uses.{one_if}
use Rattle.cand_pairs.specs.Merging.{children_from}
use Rattle.wire_widths.specs.declared.width.Width.{Width}
use Rattle.cand_pool.specs.Pools.{Block}
use Rattle.cand_turns.specs.declared.part.Part.{Part}
use Rattle.cand_turns.specs.Parts.{size_in}
use Rattle.cand_turns.specs.Tooled.{added_at}

-- how many candidates a node itself may bring to each of its lists: one of its sink, and one of each repeater
abbrev pub worth : Problem → ℕ → ℕ
worth p v = one_if (is_sink p.sinks v) + added_at p v

-- how many a node may have, by all nodes at it and below
abbrev pub most_at : Problem → ℕ → ℕ
most_at p v = downstream (parent_of p.tree.nodes) (worth p) (length p.tree.nodes) v

-- how many, without a cell at v, by those of its children that have numbers from i on
abbrev pub most_from : Problem → ℕ → ℕ → ℕ
most_from p i v = one_if (is_sink p.sinks v) + sum_by (most_at p) (children_from p v i)

-- where wires have one width, a part of node v has no more in either class
abbrev pub IsFew : Problem → List Width → ℕ → ℕ → Block → Part → Type 0
IsFew p widths i v s part = length widths ≡ 1 → (odd : Bool) → size_in s part odd ≤ most_from p i v
