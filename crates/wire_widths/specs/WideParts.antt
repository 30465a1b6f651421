-- What is known of a node when the nodes from number i on have come in, each to its parent, from the last to the first,
-- and each wire may have any of the widths.
use Rattle.std.specs.Prelude.{ℕ, Bool, List}
use Rattle.elmore.specs.Pairs.{IsUndominated}
use Rattle.elmore.specs.declared.pair.Pair.{Pair}
use Rattle.elmore.specs.declared.problem.Problem.{Problem}
use Rattle.cand_pairs.specs.Candidates.{PairSets, Fork}
use Rattle.cand_pairs.specs.Merging.{HasEnd, live_from, fork_from}
use Rattle.wire_widths.specs.WidePairs.{IsWideOpenBy, IsWidePairAt}
use Rattle.wire_widths.specs.declared.width.Width.{Width}

-- x comes from a choice of one pair and one width for each child of the fork
abbrev pub IsWideOpenWith : Problem → List Width → PairSets → Bool → Fork → Pair → Type 0
IsWideOpenWith p widths In odd fork x = (pick : ℕ → Pair) × (row : ℕ → ℕ) × IsWideOpenBy p widths In odd fork pick row x

-- the pairs of node v without a cell there, by way of the children that came in
abbrev pub IsWideOpenFrom : Problem → List Width → ℕ → ℕ → Bool → Pair → Type 0
IsWideOpenFrom p widths i v odd x = IsWideOpenWith p widths (IsWidePairAt p widths) odd (fork_from p v i) x

-- some sink is at it, or below a child that came in: the list of each class is undominated for all choices so far
pub record IsWideLivePart (p : Problem) (widths : List Width) (i v : ℕ) (lists : Bool → List Pair) : Type 0 where
  pub end : HasEnd p v (live_from p v i)
  pub exact : (odd : Bool) → IsUndominated (IsWideOpenFrom p widths i v odd) (lists odd)
