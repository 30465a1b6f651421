-- A tree whose edges are divided: each resistor may become a chain of resistors, over new nodes without capacitance.
-- Source: Alpert and Devgan, Wire Segmenting for Improved Buffer Insertion, DAC 1997.
use Rattle.std.specs.Prelude.{◌≡◌, ◌≢◌, ℕ, ◌+◌, ◌<◌, ◌==◌, Bool, true, false, List, length, slice_index_or, Option, None}
use Rattle.elmore.specs.Trees.{IsTree, parent_of, resistance, capacitance, total_resistance, total_capacitance}
use Rattle.elmore.specs.Wire.{delay_in}
use Rattle.elmore.specs.Placed.{placed_load, placed_input_load, placed_delay, placed_inverters}
use Rattle.elmore.specs.Problems.{is_sink, is_above_sink}
use Rattle.elmore.specs.declared.parts.Sink.{Sink}
use Rattle.elmore.specs.declared.tree.Node.{Node}
use Rattle.elmore.specs.declared.rep.Rep.{Rep}

-- the new number of each old node; for each node of the divided tree the old node at the lower end of its chain, the
-- next node below it in the chain, and the resistance down to it from the old node at the chain's upper end
pub record Chains : Type 0 where
  pub at : ℕ → ℕ
  pub owner : ℕ → ℕ
  pub below : ℕ → ℕ
  pub so_far : ℕ → ℕ

abbrev pub is_old : Chains → ℕ → Bool
is_old t x = t.at (t.owner x) == x

-- the tree `new` is the tree `old` with its edges divided
pub record IsDivided (old new : List Node) (t : Chains) : Type 0 where
  pub old_tree : IsTree old
  pub new_tree : IsTree new
  pub root : t.at 0 ≡ 0
  pub within : (u : ℕ) → u < length old → t.at u < length new
  pub owned : (u : ℕ) → u < length old → t.owner (t.at u) ≡ u
  pub owners : (x : ℕ) → x < length new → t.owner x < length old
  pub capacitances : (u : ℕ) → u < length old → capacitance new (t.at u) ≡ capacitance old u
  pub bare : (x : ℕ) → x < length new → is_old t x ≡ false → capacitance new x ≡ 0
  pub from_old : (x : ℕ) → 0 < x → x < length new → is_old t (parent_of new x) ≡ true
      → t.owner (parent_of new x) ≡ parent_of old (t.owner x)
  pub from_new : (x : ℕ) → 0 < x → x < length new → is_old t (parent_of new x) ≡ false
      → t.owner (parent_of new x) ≡ t.owner x
  pub goes_on : (x : ℕ) → x < length new → is_old t x ≡ false → t.below x < length new
  pub next : (x : ℕ) → x < length new → is_old t x ≡ false → parent_of new (t.below x) ≡ x
  pub only : (x w : ℕ) → x < length new → is_old t x ≡ false → w < length new → parent_of new w ≡ x → w ≢ x
      → w ≡ t.below x
  pub begins : (x : ℕ) → 0 < x → x < length new → is_old t (parent_of new x) ≡ true → t.so_far x ≡ resistance new x
  pub adds : (x : ℕ) → 0 < x → x < length new → is_old t (parent_of new x) ≡ false
      → t.so_far x ≡ t.so_far (parent_of new x) + resistance new x
  pub all : (u : ℕ) → 0 < u → u < length old → t.so_far (t.at u) ≡ resistance old u

-- the same cells at the old nodes, and none at the new ones
pub record AreSameCells (old new : List Node) (t : Chains) (cells more : List (Option ℕ)) : Type 0 where
  pub same : (u : ℕ) → u < length old → slice_index_or more (t.at u) None ≡ slice_index_or cells u None
  pub none : (x : ℕ) → x < length new → is_old t x ≡ false → slice_index_or more x None ≡ None

-- each old node is loaded and seen as before, and is as late and as often inverted
pub record ActsAlike (old new : List Node) (t : Chains) (reps : List Rep) (cells more : List (Option ℕ))
    (u : ℕ) : Type 0 where
  pub load : placed_load new reps more (t.at u) ≡ placed_load old reps cells u
  pub input_load : placed_input_load new reps more (t.at u) ≡ placed_input_load old reps cells u
  pub delay : placed_delay new reps more 0 (t.at u) ≡ placed_delay old reps cells 0 u
  pub inverters : placed_inverters new reps more 0 (t.at u) ≡ placed_inverters old reps cells 0 u

-- to divide edges changes nothing at the old nodes
abbrev pub DividedTreesActAlike : Type 0
DividedTreesActAlike = (old new : List Node) (t : Chains) (reps : List Rep) (cells more : List (Option ℕ))
    → IsDivided old new t → AreSameCells old new t cells more → (u : ℕ) → u < length old
    → ActsAlike old new t reps cells more u

-- nor the wire delays to them
abbrev pub DividedTreesKeepWireDelays : Type 0
DividedTreesKeepWireDelays = (old new : List Node) (t : Chains) → IsDivided old new t → (u : ℕ) → u < length old
    → delay_in new (t.at u) ≡ delay_in old u

-- nor all resistors and all capacitors together
abbrev pub DividedTreesKeepTotals : Type 0
DividedTreesKeepTotals = (old new : List Node) (t : Chains) → IsDivided old new t
    → (total_resistance new ≡ total_resistance old) × (total_capacitance new ≡ total_capacitance old)

-- where a sink is strictly below an old node, one is still
abbrev pub DividedTreesKeepSinksBelow : Type 0
DividedTreesKeepSinksBelow = (old new : List Node) (t : Chains) (sinks more : List (Option Sink)) → IsDivided old new t
    → ((u : ℕ) → u < length old → is_sink more (t.at u) ≡ is_sink sinks u)
    → (u : ℕ) → u < length old → is_above_sink old sinks u ≡ true → is_above_sink new more (t.at u) ≡ true

-- the same tree with these loads at its nodes
pub record IsLoadedBy (load : ℕ → ℕ) (tree loaded : List Node) : Type 0 where
  pub count : length loaded ≡ length tree
  pub parents : (i : ℕ) → i < length tree → parent_of loaded i ≡ parent_of tree i
  pub resistances : (i : ℕ) → i < length tree → resistance loaded i ≡ resistance tree i
  pub capacitances : (i : ℕ) → i < length tree → capacitance loaded i ≡ capacitance tree i + load i

-- loads at the old nodes alone leave it divided
abbrev pub LoadedTreesAreDivided : Type 0
LoadedTreesAreDivided = (old new loaded new_loaded : List Node) (t : Chains) (load more : ℕ → ℕ) → IsDivided old new t
    → IsLoadedBy load old loaded → IsLoadedBy more new new_loaded
    → ((u : ℕ) → u < length old → more (t.at u) ≡ load u)
    → ((x : ℕ) → x < length new → is_old t x ≡ false → more x ≡ 0)
    → IsDivided loaded new_loaded t
