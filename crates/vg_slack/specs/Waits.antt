-- Which nodes of a net have not come in, each to its parent. The children of a node come in from the last to the first.
use Rattle.std.specs.Prelude.{◌≡◌, ◌≢◌, ℕ, ◌<◌, ◌≤◌, true, length, slice_index}
use Rattle.elmore.specs.Path.{is_over}
use Rattle.elmore.specs.Trees.{parent_of}
use Rattle.elmore.specs.declared.problem.Problem.{Problem}
use Rattle.vg_slack.specs.declared.waiting.Waiting.{Waiting}

abbrev pub last_at : Waiting → ℕ → ℕ
last_at w v = slice_index w.last.items v

abbrev pub before_at : Waiting → ℕ → ℕ
before_at w v = slice_index w.before.items v

-- v has not come in: its parent waits for it, or for a greater child
abbrev pub IsThere : Problem → Waiting → ℕ → Type 0
IsThere p w v = v ≤ last_at w (parent_of p.tree.nodes v)

-- u is a child of v
pub record IsChildOf (p : Problem) (v u : ℕ) : Type 0 where
  pub parent : parent_of p.tree.nodes u ≡ v
  pub above : v < u
  pub node : u < length p.tree.nodes

-- the greatest child of v below i, or v itself where it has none
pub record IsLastBelow (p : Problem) (i v last : ℕ) : Type 0 where
  pub child : last ≢ v → IsChildOf p v last
  pub below : last ≢ v → last < i
  pub most : (u : ℕ) → IsChildOf p v u → u < i → u ≤ last

-- a number for each node; and for each node but the root the child of its parent that comes in next
pub record AreLinked (p : Problem) (w : Waiting) : Type 0 where
  pub lasts : length w.last.items ≡ length p.tree.nodes
  pub befores : length w.before.items ≡ length p.tree.nodes
  pub before : (v : ℕ) → 0 < v → v < length p.tree.nodes → IsLastBelow p v (parent_of p.tree.nodes v) (before_at w v)

-- no node came in yet
pub record AreAllWaiting (p : Problem) (w : Waiting) : Type 0 where
  pub linked : AreLinked p w
  pub last : (v : ℕ) → v < length p.tree.nodes → IsLastBelow p (length p.tree.nodes) v (last_at w v)

-- some came in, and each after all below it; node `at` is reached from the root by way of the last children
pub record IsWaiting (p : Problem) (w : Waiting) (at : ℕ) : Type 0 where
  pub linked : AreLinked p w
  pub child : (v : ℕ) → v < length p.tree.nodes → last_at w v ≢ v → IsChildOf p v (last_at w v)
  pub upper : (v : ℕ) → v < length p.tree.nodes → IsThere p w v → IsThere p w (parent_of p.tree.nodes v)
  pub node : at < length p.tree.nodes
  pub way : (v : ℕ) → is_over (parent_of p.tree.nodes) v at ≡ true → v ≢ 0 → last_at w (parent_of p.tree.nodes v) ≡ v

-- node i came in, and no other
pub record IsCrossedOff (p : Problem) (i : ℕ) (old new : Waiting) : Type 0 where
  pub came : IsThere p new i → ⊥
  pub was : (v : ℕ) → IsThere p new v → IsThere p old v
  pub still : (v : ℕ) → v ≢ i → IsThere p old v → IsThere p new v
  pub others : (v : ℕ) → v ≢ parent_of p.tree.nodes i → last_at new v ≡ last_at old v
  pub next : IsLastBelow p i (parent_of p.tree.nodes i) (last_at new (parent_of p.tree.nodes i))

-- all but the root came in
pub record IsAtRoot (p : Problem) (w : Waiting) : Type 0 where
  pub alone : (v : ℕ) → v < length p.tree.nodes → IsThere p w v → v ≡ 0
  pub whole : last_at w 0 ≡ 0
