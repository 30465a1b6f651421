-- A forest is a function from each node to its parent. A node that is its own parent is a root.
-- No parent has a greater number than its child, so a path has at most as many steps as its node's number.
use Rattle.std.specs.Prelude.{ℕ, zero, suc, ◌≤◌, Bool, not, List, [], ◌∷◌, ◌==◌, ◌&&◌, if◌then◌else◌}
use Rattle.std.specs.List.{list_any, take_while, range_with_len}

abbrev pub Falls : (ℕ → ℕ) → Type 0
Falls parent = (w : ℕ) → parent w ≤ w

-- w and at most k nodes above it, upward
unfoldable pub climb : (ℕ → ℕ) → ℕ → ℕ → List ℕ
climb parent zero w = w ∷ []
climb parent (suc k) w = w ∷ (if parent w == w then [] else climb parent k (parent w))

-- the path of w, from w up to its root
unfoldable pub path : (ℕ → ℕ) → ℕ → List ℕ
path parent w = climb parent w w

-- v is w or above it
unfoldable pub is_over : (ℕ → ℕ) → ℕ → ℕ → Bool
is_over parent v w = list_any (λ u. u == v) (path parent w)

-- the nodes after v on the path down to w, the lowest first
unfoldable pub way : (ℕ → ℕ) → ℕ → ℕ → List ℕ
way parent v w = take_while (λ u. not (u == v)) (path parent w)

-- v is the next node above u
abbrev pub is_child : (ℕ → ℕ) → ℕ → ℕ → Bool
is_child parent v u = (parent u == v) && not (u == v)

-- the numbers of n nodes
abbrev pub nodes : ℕ → List ℕ
nodes n = range_with_len 0 n
