-- How far a search has come up a net.
use Rattle.std.specs.Prelude.{◌≡◌, ℕ, ◌+◌, ◌<◌, List, [], ◌∷◌, ◌++◌, length, slice_index_or, slice_set}
use Rattle.elmore.specs.Trees.{parent_of}
use Rattle.elmore.specs.declared.problem.Problem.{Problem}
use Rattle.wire_widths.specs.declared.width.Width.{Width}
use Rattle.sol_arena.specs.declared.slot.Made.{Made}
use Rattle.cand_pool.specs.Pools.{Block}
use Rattle.cand_turns.specs.declared.part.Part.{Part}
use Rattle.cand_turns.specs.declared.part.Part.TheVariants.{Dead}
use Rattle.cand_turns.specs.Swaps.{Lists}
use Rattle.cand_turns.specs.Parts.{lists_in, IsPart}
use Rattle.vg_slack.specs.Bounds.{IsFew}
use Rattle.vg_slack.specs.Waits.{last_at, IsThere}
use Rattle.vg_slack.specs.declared.waiting.Waiting.{Waiting}

-- the lists of all these parts
abbrev pub all_lists : List Part → Lists
all_lists [] = []
all_lists (part ∷ parts) = lists_in part ++ all_lists parts

abbrev pub part_at : List Part → ℕ → Part
part_at parts v = slice_index_or parts v (Dead 0)

-- the part of v was taken away
abbrev pub without : List Part → ℕ → List Part
without parts v = slice_set parts v (Dead 0)

-- the part of node v, with those of its children from number i on that came in, and not too long
pub record IsSoFar (p : Problem) (widths : List Width) (i v : ℕ) (ms : List Made) (s : Block) (x : Part) : Type 0 where
  pub part : IsPart p widths i v ms s x
  pub few : IsFew p widths i v s x

-- the part of the parent of a node, with the children from this node's number on, but for itself, that came in
abbrev pub IsAboveSoFar : Problem → List Width → ℕ → List Made → Block → Part → Type 0
IsAboveSoFar p widths node ms s x = IsSoFar p widths (node + 1) (parent_of p.tree.nodes node) ms s x

-- to none of these nodes a child came in
abbrev pub AreBegun : Problem → List Width → List Made → Block → List Part → Type 0
AreBegun p widths ms s parts = (v : ℕ) → v < length parts
    → IsSoFar p widths (length p.tree.nodes) v ms s (part_at parts v)

-- a node that has not come in has its part, with its children that came in; one that came in has no lists left
pub record AreParts (p : Problem) (widths : List Width) (w : Waiting) (ms : List Made) (s : Block)
    (parts : List Part) : Type 0 where
  pub one_each : length parts ≡ length p.tree.nodes
  pub there : (v : ℕ) → v < length p.tree.nodes → IsThere p w v
      → IsSoFar p widths (last_at w v + 1) v ms s (part_at parts v)
  pub came : (v : ℕ) → v < length p.tree.nodes → (IsThere p w v → ⊥) → lists_in (part_at parts v) ≡ []
