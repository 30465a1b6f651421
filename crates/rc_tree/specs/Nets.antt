-- Nets as they are given: numbered nodes, a root, capacitors and resistors.
use Rattle.std.specs.Prelude.{ℕ, ◌==◌, ◌<◌, ◌≤◌, ◌^◌, List, length, slice_index_or, if◌then◌else◌}
use Rattle.std.specs.List.{sum_by}
use Rattle.rc_tree.specs.Chains.{edge_at}

abbrev pub cap_at : List (ℕ × ℕ) → ℕ → ℕ × ℕ
cap_at caps k = slice_index_or caps k (0, 0)

-- n nodes, numbered from 0, at most 2^30; each list has at most 2^28 elements, each capacitor at most 10^15 aF
pub record IsNet (n root : ℕ) (caps : List (ℕ × ℕ)) (edges : List (ℕ × ℕ × ℕ)) : Type 0 where
  pub some : 1 ≤ n
  pub most : n ≤ 2 ^ 30
  pub root_node : root < n
  pub cap_count : length caps ≤ 2 ^ 28
  pub cap_nodes : (k : ℕ) → k < length caps → (cap_at caps k).0 < n
  pub cap_values : (k : ℕ) → k < length caps → (cap_at caps k).1 ≤ 10 ^ 15
  pub edge_count : length edges ≤ 2 ^ 28
  pub from_nodes : (j : ℕ) → j < length edges → (edge_at edges j).0 < n
  pub to_nodes : (j : ℕ) → j < length edges → (edge_at edges j).1 < n

-- all capacitors at a node together
abbrev pub capacitance_at : List (ℕ × ℕ) → ℕ → ℕ
capacitance_at caps v = sum_by (λ cap. if cap.0 == v then cap.1 else 0) caps
