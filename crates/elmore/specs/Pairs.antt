-- Pairs of required time and load at a node, and undominated lists of them (van Ginneken 1990; a list for each
-- polarity: Lillis, Cheng and Lin 1996).
use Rattle.std.specs.Prelude.{◌≡◌, ℕ, ◌+◌, ◌<◌, ◌≤◌, Bool, true, cond, List, slice_index_or, ℤ, pos, ◌-ℤ◌, ◌≤ℤ◌, ◌<ℤ◌, Option, None}
use Rattle.std.specs.List.{Contains, All, AllPairs}
use Rattle.elmore.specs.Path.{is_over}
use Rattle.elmore.specs.Delay.{is_odd}
use Rattle.elmore.specs.Legal.{IsPlaced, MayHave}
use Rattle.elmore.specs.Placements.{IsPlacement, IsSinkAt, load_of, delay_between, inverters_between, input_load_of}
use Rattle.elmore.specs.Trees.{parent_of}
use Rattle.elmore.specs.declared.parts.Sink.{Sink}
use Rattle.elmore.specs.declared.pair.Pair.{Pair}
use Rattle.elmore.specs.declared.problem.Problem.{Problem}

-- the sink lies at or below v
pub record IsSinkUnder (p : Problem) (v w : ℕ) (sink : Sink) : Type 0 where
  pub there : IsSinkAt p w sink
  pub under : is_over (parent_of p.tree.nodes) v w ≡ true

-- how late the signal may reach v for this sink
abbrev pub required_from : Problem → List (Option ℕ) → ℕ → ℕ → Sink → ℤ
required_from p cells v w sink = sink.required -ℤ pos (delay_between p cells v w)

-- a signal of the odd class is inverted when it reaches v
abbrev pub class_of : Bool → ℕ
class_of odd = cond odd 1 0

-- the placement has cells only at places, and those at or below v are legal there; it gives the sinks at or below v
-- their polarity when the signal reaches v in the class; and x is its pair: the latest time at which the signal may
-- reach v, and the load that v is seen as
pub record IsPairOf (p : Problem) (v : ℕ) (odd : Bool) (cells : List (Option ℕ)) (x : Pair) : Type 0 where
  pub placement : IsPlacement p cells
  pub placed : IsPlaced p cells
  pub fits : (u : ℕ) → is_over (parent_of p.tree.nodes) v u ≡ true
      → MayHave p u (slice_index_or cells u None) (load_of p cells u)
  pub wanted : (w : ℕ) (sink : Sink) → IsSinkUnder p v w sink
      → is_odd (class_of odd + inverters_between p cells v w) ≡ sink.inverted
  pub least : (w : ℕ) (sink : Sink) → IsSinkUnder p v w sink → x.q ≤ℤ required_from p cells v w sink
  pub met : (w : ℕ) × (sink : Sink) × IsSinkUnder p v w sink × (x.q ≡ required_from p cells v w sink)
  pub load : x.c ≡ input_load_of p cells v

abbrev pub IsPairAt : Problem → ℕ → Bool → Pair → Type 0
IsPairAt p v odd x = (cells : List (Option ℕ)) × IsPairOf p v odd cells x

-- x has no less time and no more load than y
pub record Dominates (x y : Pair) : Type 0 where
  pub time : y.q ≤ℤ x.q
  pub room : x.c ≤ y.c

pub record IsBelow (x y : Pair) : Type 0 where
  pub time : x.q <ℤ y.q
  pub room : x.c < y.c

-- the pairs of a set that no other pair of it dominates, each once, by rising load
pub record IsUndominated (In : Pair → Type 0) (xs : List Pair) : Type 0 where
  pub rising : AllPairs IsBelow xs
  pub taken : All In xs
  pub covers : (y : Pair) → In y → (x : Pair) × Contains xs x × Dominates x y
