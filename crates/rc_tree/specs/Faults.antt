-- When a net is no tree.
use Rattle.std.specs.Prelude.{◌≢◌, ℕ, ◌+◌, ◌<◌, List, length}
use Rattle.rc_tree.specs.Chains.{AreJoined}
use Rattle.rc_tree.specs.declared.fault.TreeFault.{TreeFault}
use Rattle.rc_tree.specs.declared.fault.TreeFault.TheVariants.{Floating, Loop, Memory}

-- no chain of resistors joins the node to the root
abbrev pub Floats : List (ℕ × ℕ × ℕ) → ℕ → ℕ → Type 0
Floats edges root v = AreJoined edges root v → ⊥

-- each node is joined to the root
abbrev pub NoneFloats : ℕ → List (ℕ × ℕ × ℕ) → ℕ → Type 0
NoneFloats n edges root = (v : ℕ) → v < n → AreJoined edges root v

-- v is the node of the least number that floats
pub record IsLeastFloating (n : ℕ) (edges : List (ℕ × ℕ × ℕ)) (root v : ℕ) : Type 0 where
  pub node : v < n
  pub floats : Floats edges root v
  pub before : (u : ℕ) → u < v → AreJoined edges root u

-- joined nodes without a loop have one resistor fewer than nodes
pub record HasLoop (n : ℕ) (edges : List (ℕ × ℕ × ℕ)) (root : ℕ) : Type 0 where
  pub joined : NoneFloats n edges root
  pub count : length edges + 1 ≢ n

abbrev pub IsFaultOf : ℕ → List (ℕ × ℕ × ℕ) → ℕ → TreeFault → Type 0
IsFaultOf n edges root (Floating v) = IsLeastFloating n edges root v
IsFaultOf n edges root Loop = HasLoop n edges root
IsFaultOf n edges root Memory = Unit {0}
