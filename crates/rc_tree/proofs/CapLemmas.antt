-- Nodes with their capacitors, as capacitors are added one by one.
use Rattle.std.proofs.Common.{◌≡◌, ◌≢◌, ℕ, ◌+◌, ◌-◌, ◌*◌, ◌<◌, ◌≤◌, ◌^◌, Bool, true, false, cond, eqb, List, map, refl, sym, ap, ◌∙◌, arith, inl, inr, length, get_or, set, take}
use Rattle.std.proofs.lemmas.Bool.{cases_eq, eq-eqb, ne_eqb}
use Rattle.std.proofs.lemmas.List.{ext_get_or, get_or-map, get_or-set_same, get_or-set_other, get_or_read_under, get_or_default, length-map}
use Rattle.std.proofs.lemmas.List.Sums.{sum_by_more}
use Rattle.elmore.specs.Trees.{node_at, capacitance}
use Rattle.elmore.specs.declared.tree.Node.{Node}
use Rattle.rc_tree.specs.Nets.{cap_at, capacitance_at}
use Rattle.rc_tree.specs.Search.{place_at, bare_node_of, node_of, with_capacitance, with_caps, HavePlaces}
use Rattle.rc_tree.specs.declared.search.Place.{Place}

-- the nodes have the capacitors before the number k
pub record HaveCaps (caps : List (ℕ × ℕ)) (places : List Place) (bare : List Node) (k : ℕ) (nodes : List Node) : Type 0 where
  pub each : (i : ℕ) → i < length bare → node_at nodes i ≡ with_caps (take k caps) (place_at places i) (node_at bare i)
  pub least : (v : ℕ) → capacitance_at (take k caps) v ≤ 10 ^ 15 * k

-- one more capacitor
sum_more : (caps : List (ℕ × ℕ)) (k v : ℕ) → k < length caps
    → capacitance_at (take (k + 1) caps) v ≡ capacitance_at (take k caps) v + cond (eqb (cap_at caps k).0 v) (cap_at caps k).1 0
sum_more caps k v k_m = sum_by_more (λ (cap : ℕ × ℕ). cond (eqb cap.0 v) cap.1 0) caps k (0, 0) k_m

most : (b : Bool) (c m : ℕ) → c ≤ m → cond {A = ℕ} b c 0 ≤ m
most true c m small = small
most false c m small = omega arith

added : (caps : List (ℕ × ℕ)) (k : ℕ) (place : Place) (old : Node) → k < length caps → (cap_at caps k).0 ≡ place.node
    → with_capacitance (with_caps (take k caps) place old) ((with_caps (take k caps) place old).c + (cap_at caps k).1) ≡ with_caps (take (k + 1) caps) place old
added caps k place old k_m here =
    let more : cond (eqb (cap_at caps k).0 place.node) (cap_at caps k).1 0 ≡ (cap_at caps k).1 =
    ap (λ (b : Bool). cond {A = ℕ} b (cap_at caps k).1 0) (eq-eqb (cap_at caps k).0 place.node here) in
    ap (with_capacitance old) (omega (arith, sum_more caps k place.node k_m))

passed : (caps : List (ℕ × ℕ)) (k : ℕ) (place : Place) (old : Node) → k < length caps → (cap_at caps k).0 ≢ place.node
    → with_caps (take k caps) place old ≡ with_caps (take (k + 1) caps) place old
passed caps k place old k_m other =
    let none : cond (eqb (cap_at caps k).0 place.node) (cap_at caps k).1 0 ≡ 0 =
    ap (λ (b : Bool). cond {A = ℕ} b (cap_at caps k).1 0) (ne_eqb (cap_at caps k).0 place.node other) in
    ap (with_capacitance old) (omega (arith, sum_more caps k place.node k_m))

-- the rank of a capacitor's node is that of its place
pub record IsRankOf (places : List Place) (node rank : ℕ) : Type 0 where
  pub some : 0 < rank
  pub within : rank ≤ length places
  pub node_is : (place_at places (rank - 1)).node ≡ node

pub rank_read : (caps : List (ℕ × ℕ)) (places : List Place) (ranks : List ℕ) (k rank : ℕ) → HavePlaces caps places ranks → k < length caps
    → rank ≡ get_or ranks (cap_at caps k).0 rank
    → IsRankOf places (cap_at caps k).0 rank
rank_read caps places ranks k rank have k_m read =
    let (i, i_n, at) = have.found k k_m in
    let is : rank ≡ i + 1 =
    get_or_read_under ranks (cap_at caps k).0 (length ranks) rank 0 read (have.within k k_m) refl ∙ ap (λ (v : ℕ). get_or ranks v 0) (sym at) ∙ have.ranked i i_n in
    record {
      some = omega arith;
      within = omega arith;
      node_is = ap (λ (p : ℕ). (place_at places p).node) (let same : rank - 1 ≡ i = omega arith in same) ∙ at;
    }

pub caps_more : (caps : List (ℕ × ℕ)) (places : List Place) (ranks : List ℕ) (bare nodes : List Node) (k rank : ℕ) (node : Node)
    → HavePlaces caps places ranks
    → HaveCaps caps places bare k nodes
    → length bare ≡ length places
    → length nodes ≡ length bare
    → k < length caps
    → (cap_at caps k).1 ≤ 10 ^ 15
    → rank ≡ get_or ranks (cap_at caps k).0 rank
    → node ≡ with_capacitance (get_or nodes (rank - 1) (record { parent = 0; r = 0; c = 0 })) ((get_or nodes (rank - 1) (record { parent = 0; r = 0; c = 0 })).c + (cap_at caps k).1)
    → HaveCaps caps places bare (k + 1) (set nodes (rank - 1) node)
caps_more caps places ranks bare nodes k rank node have before size each k_m small read node_is = record {
  each = λ i i_n.
      elim (cases_eq i (rank - 1)) [
        | inl e ↦ rw e
            (get_or-set_same nodes (rank - 1) node (record { parent = rank - 1; r = 0; c = 0 }) (omega arith)
            ∙ node_is
            ∙ ap (λ (x : Node). with_capacitance x (x.c + (cap_at caps k).1))
            (get_or_default nodes (rank - 1) (record { parent = 0; r = 0; c = 0 }) (record { parent = rank - 1; r = 0; c = 0 }) (omega arith)
            ∙ before.each (rank - 1) (omega arith))
            ∙ added caps k (place_at places (rank - 1)) (node_at bare (rank - 1)) k_m (sym at.node_is))
        | inr e ↦
            get_or-set_other nodes (rank - 1) i node (record { parent = i; r = 0; c = 0 }) e
            ∙ before.each i i_n
            ∙ passed caps k (place_at places i) (node_at bare i) k_m
            (λ same. e (let rank_is : rank ≡ i + 1 = rank_of ∙ ap (λ (v : ℕ). get_or ranks v 0) same ∙ have.ranked i (omega arith) in omega arith))
      ];
  least = λ v. omega (arith, sum_more caps k v k_m, most (eqb (cap_at caps k).0 v) (cap_at caps k).1 (10 ^ 15) small, before.least v);
}
  where
    at : IsRankOf places (cap_at caps k).0 rank
    at = rank_read caps places ranks k rank have k_m read

    rank_of : rank ≡ get_or ranks (cap_at caps k).0 0
    rank_of = get_or_read_under ranks (cap_at caps k).0 (length ranks) rank 0 read (have.within k k_m) refl

-- with all of them the bare nodes of the places are those of the tree
pub nodes_done : (edges : List (ℕ × ℕ × ℕ)) (caps : List (ℕ × ℕ)) (places : List Place) (bare nodes : List Node)
    → bare ≡ map (bare_node_of edges) places
    → length nodes ≡ length bare
    → ((i : ℕ) → i < length bare → node_at nodes i ≡ with_caps caps (place_at places i) (node_at bare i))
    → nodes ≡ map (node_of edges caps) places
nodes_done edges caps places bare nodes is size each =
    ext_get_or (record { parent = 0; r = 0; c = 0 }) nodes (map (node_of edges caps) places) (omega (arith, count, length-map places (node_of edges caps)))
    (λ i i_n.
    let low : i < length places = omega (arith, count) in
    get_or_default nodes i (record { parent = 0; r = 0; c = 0 }) (record { parent = i; r = 0; c = 0 }) i_n
    ∙ each i (omega arith)
    ∙ ap (with_caps caps (place_at places i)) (ap (λ (xs : List Node). node_at xs i) is
    ∙ get_or-map (bare_node_of edges) places i (record { node = 0; parent = 0; edge = 0 }) (record { parent = i; r = 0; c = 0 }) low)
    ∙ sym (get_or-map (node_of edges caps) places i (record { node = 0; parent = 0; edge = 0 }) (record { parent = 0; r = 0; c = 0 }) low))
  where
    count : length bare ≡ length places
    count = ap (λ (xs : List Node). length xs) is ∙ length-map places (bare_node_of edges)

pub small_so_far : (caps : List (ℕ × ℕ)) (places : List Place) (bare nodes : List Node) (k i : ℕ) → HaveCaps caps places bare k nodes
    → length nodes ≡ length bare → i < length bare → k ≤ 2 ^ 28 → (get_or nodes i (record { parent = 0; r = 0; c = 0 })).c ≤ 2 ^ 100
small_so_far caps places bare nodes k i have size i_n few =
    let is : (get_or nodes i (record { parent = 0; r = 0; c = 0 })).c ≡ capacitance_at (take k caps) (place_at places i).node =
    ap (λ (x : Node). x.c) (get_or_default nodes i (record { parent = 0; r = 0; c = 0 }) (record { parent = i; r = 0; c = 0 }) (omega arith) ∙ have.each i i_n) in
    omega (arith, have.least (place_at places i).node)

pub bare_none : (edges : List (ℕ × ℕ × ℕ)) (places : List Place) (bare : List Node) → bare ≡ map (bare_node_of edges) places
    → (i : ℕ) → i < length bare → capacitance bare i ≡ 0
bare_none edges places bare is i i_n =
    ap (λ (nodes : List Node). capacitance nodes i) is
    ∙ ap (λ (x : Node). x.c)
    (get_or-map (bare_node_of edges) places i (record { node = 0; parent = 0; edge = 0 }) (record { parent = i; r = 0; c = 0 })
    (omega (arith, ap (λ (nodes : List Node). length nodes) is, length-map places (bare_node_of edges))))
