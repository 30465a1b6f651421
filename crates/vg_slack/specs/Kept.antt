-- The lists that a search keeps of the nodes of a net.
use Rattle.std.specs.Prelude.{◌≡◌, ℕ, ◌<◌, ◌≤◌, Bool, true, false, cond, List, [], length, map, get_or}
use Rattle.elmore.specs.Pairs.{IsPairAt, IsUndominated}
use Rattle.elmore.specs.Problems.{is_live}
use Rattle.elmore.specs.declared.pair.Pair.{Pair}
use Rattle.elmore.specs.declared.problem.Problem.{Problem}
use Rattle.cand_pairs.specs.Candidates.{IsLive}
use Rattle.wire_widths.specs.WidePairs.{IsWidePairAt}
use Rattle.wire_widths.specs.declared.width.Width.{Width}
use Rattle.vg_slack.specs.Bounds.{most_at}
use Rattle.vg_slack.specs.Waits.{IsThere}
use Rattle.vg_slack.specs.declared.lists.NodeLists.{NodeLists}
use Rattle.vg_slack.specs.declared.lists.Lists.{Lists}
use Rattle.vg_slack.specs.declared.waiting.Waiting.{Waiting}

-- the list of each class
abbrev pub Classes : Type 0
Classes = Bool → List Pair

abbrev pub AreEmpty : Classes → Type 0
AreEmpty lists = (odd : Bool) → lists odd ≡ []

abbrev pub kept_in : NodeLists → Classes
kept_in kept odd = cond odd kept.odd.items kept.even.items

-- those of node v; empty where no lists are kept
abbrev pub lists_at : Lists → ℕ → Classes
lists_at lists v = get_or (map kept_in lists.nodes.items) v (λ odd. [])

-- of a node with a sink at or below it all undominated pairs, and of another none; in each class at most one pair for
-- each sink at or below it, and one for each repeater at each place there
pub record IsKeptAt (p : Problem) (v : ℕ) (lists : Classes) : Type 0 where
  pub live : IsLive p v → (odd : Bool) → IsUndominated (IsPairAt p v odd) (lists odd)
  pub dead : is_live p.tree.nodes p.sinks v ≡ false → AreEmpty lists
  pub few : (odd : Bool) → length (lists odd) ≤ most_at p v

-- the same of a node whose wires may have these widths; with one width alone the lists are so short
pub record IsWideKeptAt (p : Problem) (widths : List Width) (v : ℕ) (lists : Classes) : Type 0 where
  pub live : IsLive p v → (odd : Bool) → IsUndominated (IsWidePairAt p widths v odd) (lists odd)
  pub dead : is_live p.tree.nodes p.sinks v ≡ false → AreEmpty lists
  pub few : length widths ≡ 1 → (odd : Bool) → length (lists odd) ≤ most_at p v

-- those of node v are kept, if lists of it are kept at all
abbrev pub IsKeptOf : Problem → List Width → Lists → ℕ → Type 0
IsKeptOf p widths lists v = v < length lists.nodes.items → IsWideKeptAt p widths v (lists_at lists v)

-- those of the nodes that came in are kept, and of the others none yet
pub record AreKept (p : Problem) (widths : List Width) (w : Waiting) (lists : Lists) : Type 0 where
  pub done : (v : ℕ) → v < length p.tree.nodes → (IsThere p w v → ⊥) → IsKeptOf p widths lists v
  pub ahead : (v : ℕ) → IsThere p w v → AreEmpty (lists_at lists v)

abbrev pub AreAllKept : Problem → List Width → Lists → Type 0
AreAllKept p widths lists = (v : ℕ) → v < length p.tree.nodes → IsKeptOf p widths lists v

-- those of all nodes are kept, or none
abbrev pub AreListsOf : Problem → Bool → Lists → Type 0
AreListsOf p true lists = (length lists.nodes.items ≡ length p.tree.nodes)
    × ((v : ℕ) → v < length p.tree.nodes → IsKeptAt p v (lists_at lists v))
AreListsOf p false lists = lists.nodes.items ≡ []
