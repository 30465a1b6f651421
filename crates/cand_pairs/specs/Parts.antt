-- What is known of a node when the nodes from number i on have come in, each to its parent, from the last to the first.
-- The pairs of a node that has come in are those of In.
use Rattle.std.specs.Prelude.{◌≡◌, ℕ, Bool, List, [], None, cond}
use Rattle.elmore.specs.Pairs.{IsUndominated, IsPairAt}
use Rattle.elmore.specs.Problems.{sink_of}
use Rattle.cand_pairs.specs.Candidates.{IsOpenWith, PairSets}
use Rattle.cand_pairs.specs.Merging.{HasEnd, Carries, live_from, own_from, Wires, Meets, fork_from}
use Rattle.elmore.specs.declared.pair.Pair.{Pair}
use Rattle.cand_pairs.specs.declared.parts.Classes.{Classes}
use Rattle.elmore.specs.declared.problem.Problem.{Problem}

-- some sink is at it, or below a child that came in: the list of each class is undominated for all choices so far
pub record IsLivePart (p : Problem) (In : PairSets) (i v : ℕ) (lists : Bool → List Pair) : Type 0 where
  pub end : HasEnd p v (live_from p v i)
  pub exact : (odd : Bool) → IsUndominated (IsOpenWith p In odd (fork_from p v i)) (lists odd)

-- no sink is at it nor below a child that came in: a capacitance
pub record IsDeadPart (p : Problem) (i v c : ℕ) : Type 0 where
  pub no_sink : sink_of p.sinks v ≡ None
  pub no_child : live_from p v i ≡ []
  pub load : c ≡ own_from p v i

-- the pairs of a live node, and what is left of them above its wire
pub record AreCarried (p : Problem) (In : PairSets) (i : ℕ) (kept above : Bool → List Pair) : Type 0 where
  pub at_node : (odd : Bool) → IsUndominated (In i odd) (kept odd)
  pub at_parent : (odd : Bool) → IsUndominated (Carries p i (kept odd)) (above odd)

-- the list of a class
abbrev pub list_of : Classes → Bool → List Pair
list_of classes odd = cond odd classes.odds.items classes.evens.items

-- the classes of node i, which came in
abbrev pub AreExactAt : Problem → ℕ → Classes → Type 0
AreExactAt p i classes = (odd : Bool) → IsUndominated (IsPairAt p i odd) (list_of classes odd)

-- the classes of node v, with all that came in from number i on
abbrev pub AreOpenFrom : Problem → ℕ → ℕ → Classes → Type 0
AreOpenFrom p i v classes = IsLivePart p (IsPairAt p) i v (list_of classes)

-- two branches together, the second through a wire, by way of the undominated pairs above the wire
abbrev pub IsJoined : ℕ → List Pair → List Pair → List Pair → Type 0
IsJoined r xs ys zs = (above : List Pair) × IsUndominated (Wires r ys) above × IsUndominated (Meets xs above) zs
