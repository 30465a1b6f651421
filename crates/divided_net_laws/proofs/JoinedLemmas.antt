-- A divided net has a tree where the net has: each of its nodes is joined to the root, and by the count of its
-- resistors there is no loop.
use Rattle.std.proofs.Common.{◌≡◌, ◌⊎◌, ℕ, zero, suc, ◌+◌, ◌-◌, ◌*◌, ◌/◌, ◌%◌, ◌<◌, ◌≤◌, List, [], ◌∷◌, ◌++◌, refl, sym, ap, ◌∙◌, subst, arith, inl, inr, length, slice_index, div-add-mod'}
use Rattle.std.proofs.Math.Nat.{mul-le-mul_left}
use Rattle.std.proofs.lemmas.Bool.{cases_eq}
use Rattle.std.proofs.lemmas.Nat.{mod_below, div_below}
use Rattle.elmore.specs.Trees.{parent_of}
use Rattle.elmore.specs.declared.tree.Node.{Node}
use Rattle.rc_tree.specs.Chains.{edge_at, Joins, AreNeighbours, IsChain, AreJoined}
use Rattle.rc_tree.specs.Faults.{NoneFloats}
use Rattle.cut_laws.specs.PieceNets.{NumberedNet, IsTreeOfNet}
use Rattle.cut_laws.proofs.SomeTreeLemmas.{some_tree}
use Rattle.divided_net_laws.specs.DividedNets.{link, IsDividedNet, DividedNetsHaveTrees}
use Rattle.divided_net_laws.proofs.LinkLemmas.{part_edge, link_0, link_end, link_mid}

-- a chain of resistors with one more at its end
chain_more : (edges : List (ℕ × ℕ × ℕ)) (u : ℕ) (path : List ℕ) (v w : ℕ) → IsChain edges u path v
    → AreNeighbours edges v w
    → IsChain edges u (path ++ (w ∷ [])) w
chain_more edges u [] v w chain next = (subst (λ (x : ℕ). AreNeighbours edges x w) (sym chain) next, refl)
chain_more edges u (x ∷ path) v w chain next = (chain.0, chain_more edges x path v w chain.1 next)

joined_more : (edges : List (ℕ × ℕ × ℕ)) (u v w : ℕ) → AreJoined edges u v → AreNeighbours edges v w
    → AreJoined edges u w
joined_more edges u v w (path, chain) next = (path ++ (w ∷ []), chain_more edges u path v w chain next)

-- each part of a resistor joins the node before it to the node after it
part_joins : (parts : ℕ) (net other : NumberedNet) (to : ℕ → ℕ) (fresh : ℕ → ℕ → ℕ)
    → IsDividedNet parts net other to fresh
    → (j i : ℕ) → j < length net.edges → i < parts
    → (e : ℕ) × (e < length other.edges)
    × ((edge_at other.edges e).0 ≡ link parts to fresh net.edges j i)
    × ((edge_at other.edges e).1 ≡ link parts to fresh net.edges j (i + 1))
part_joins parts net other to fresh d j i j_n i_p =
    let row : parts * (j + 1) ≤ parts * length net.edges = mul-le-mul_left parts (omega arith) in (
      parts * j + i,
      omega (arith, row, d.count),
      ap (λ (x : ℕ × ℕ × ℕ). x.0) (d.resistors j i j_n i_p),
      ap (λ (x : ℕ × ℕ × ℕ). x.1) (d.resistors j i j_n i_p),
    )

-- what is joined to one end of a resistor is joined to each node of its chain
forward : (parts : ℕ) (net other : NumberedNet) (to : ℕ → ℕ) (fresh : ℕ → ℕ → ℕ) → IsDividedNet parts net other to fresh
    → (j top : ℕ) → j < length net.edges → AreJoined other.edges top (link parts to fresh net.edges j 0)
    → (i : ℕ) → i ≤ parts → AreJoined other.edges top (link parts to fresh net.edges j i)
forward parts net other to fresh d j top j_n start zero i_p = start
forward parts net other to fresh d j top j_n start (suc i) i_p =
    let (e, e_m, first, second) = part_joins parts net other to fresh d j i j_n (omega arith) in
    let more : i + 1 ≡ suc i = omega arith in
    joined_more other.edges top (link parts to fresh net.edges j i) (link parts to fresh net.edges j (suc i))
    (forward parts net other to fresh d j top j_n start i (omega arith))
    (e, e_m, inl (first, second ∙ ap (link parts to fresh net.edges j) more))

backward : (parts : ℕ) (net other : NumberedNet) (to : ℕ → ℕ) (fresh : ℕ → ℕ → ℕ)
    → IsDividedNet parts net other to fresh
    → (j top : ℕ) → j < length net.edges → AreJoined other.edges top (link parts to fresh net.edges j parts)
    → (k i : ℕ) → i + k ≡ parts → AreJoined other.edges top (link parts to fresh net.edges j i)
backward parts net other to fresh d j top j_n start zero i e =
    let last : parts ≡ i = omega arith in
    subst (λ (x : ℕ). AreJoined other.edges top (link parts to fresh net.edges j x)) last start
backward parts net other to fresh d j top j_n start (suc k) i e =
    let (n, n_m, first, second) = part_joins parts net other to fresh d j i j_n (omega arith) in
    joined_more other.edges top (link parts to fresh net.edges j (i + 1)) (link parts to fresh net.edges j i)
    (backward parts net other to fresh d j top j_n start k (i + 1) (omega arith))
    (n, n_m, inr (first, second))

-- so a chain of resistors is one of the divided net
chain_joined : (parts : ℕ) (net other : NumberedNet) (to : ℕ → ℕ) (fresh : ℕ → ℕ → ℕ)
    → IsDividedNet parts net other to fresh
    → (top u : ℕ) (path : List ℕ) (v : ℕ) → AreJoined other.edges top (to u) → IsChain net.edges u path v
    → AreJoined other.edges top (to v)
chain_joined parts net other to fresh d top u [] v start chain =
    subst (λ (x : ℕ). AreJoined other.edges top (to x)) chain start
chain_joined parts net other to fresh d top u (w ∷ path) v start chain =
    let (j, j_n, joins) = chain.0 in
    chain_joined parts net other to fresh d top w path v (over j j_n joins) chain.1
  where
    moved : (x y : ℕ) → x ≡ y → AreJoined other.edges top x → AreJoined other.edges top y
    moved x y same is = subst (AreJoined other.edges top) same is

    first : (j : ℕ) → link parts to fresh net.edges j 0 ≡ to (edge_at net.edges j).0
    first j = link_0 parts to fresh net.edges j 0 refl

    last : (j : ℕ) → link parts to fresh net.edges j parts ≡ to (edge_at net.edges j).1
    last j = link_end parts to fresh net.edges j parts d.some refl

    over : (j : ℕ) → j < length net.edges → Joins (edge_at net.edges j) u w → AreJoined other.edges top (to w)
    over j j_n (inl (a, b)) =
        moved (link parts to fresh net.edges j parts) (to w) (last j ∙ ap to b)
        (forward parts net other to fresh d j top j_n
        (moved (to u) (link parts to fresh net.edges j 0) (ap to (sym a) ∙ sym (first j)) start)
        parts (omega arith))
    over j j_n (inr (a, b)) =
        moved (link parts to fresh net.edges j 0) (to w) (first j ∙ ap to a)
        (backward parts net other to fresh d j top j_n
        (moved (to u) (link parts to fresh net.edges j parts) (ap to (sym b) ∙ sym (last j)) start)
        parts 0 (omega arith))

-- the resistors of a tree are between its nodes
ends_within : (net : NumberedNet) (tree : List Node) (order : List ℕ) → IsTreeOfNet net tree order
    → (j : ℕ) → j < length net.edges → ((edge_at net.edges j).0 < net.nodes) × ((edge_at net.edges j).1 < net.nodes)
ends_within net tree order t j j_n =
    let (wires, a) = t.wires in
    let (i, i_0, i_n, at) = a.each j j_n in
    let wire = a.wire i i_0 i_n in
    ends (edge_at net.edges j) (slice_index order (parent_of tree i)) (slice_index order i)
    (t.lists.within (parent_of tree i) (omega (arith, t.a_tree.smaller i i_0 i_n, t.count)))
    (t.lists.within i (omega (arith, t.count)))
    (subst
    (λ k. Joins (edge_at net.edges k) (slice_index order (parent_of tree i)) (slice_index order i))
    at
    wire.joins)
  where
    ends : (e : ℕ × ℕ × ℕ) (u v : ℕ) → u < net.nodes → v < net.nodes → Joins e u v
        → (e.0 < net.nodes) × (e.1 < net.nodes)
    ends e u v u_n v_n (inl (a, b)) = (omega arith, omega arith)
    ends e u v u_n v_n (inr (a, b)) = (omega arith, omega arith)

root_within : (net : NumberedNet) (tree : List Node) (order : List ℕ) → IsTreeOfNet net tree order
    → net.root < net.nodes
root_within net tree order t = omega (arith, t.begins, t.lists.within 0 (omega (arith, t.count, t.a_tree.some_node)))

-- the nodes of a resistor's chain are nodes of the divided net
link_within : (parts : ℕ) (net other : NumberedNet) (to : ℕ → ℕ) (fresh : ℕ → ℕ → ℕ)
    → IsDividedNet parts net other to fresh
    → (j i : ℕ) → j < length net.edges → i ≤ parts → (edge_at net.edges j).0 < net.nodes
    → (edge_at net.edges j).1 < net.nodes
    → link parts to fresh net.edges j i < other.nodes
link_within parts net other to fresh d j i j_n i_p first second =
    elim (cases_eq i 0) [
      | inl none ↦ omega (arith, link_0 parts to fresh net.edges j i none, d.within (edge_at net.edges j).0 first)
      | inr some ↦ elim (cases_eq i parts) [
        | inl all ↦
            omega (arith, link_end parts to fresh net.edges j i d.some all, d.within (edge_at net.edges j).1 second)
        | inr less ↦
            let i_0 : 0 < i = omega arith in
            let less_i : i < parts = omega arith in
            omega (arith, link_mid parts to fresh net.edges j i i_0 less_i, d.fresh_within j i j_n i_0 less_i)
      ]
    ]

-- the ends of each part are nodes
parts_within : (parts : ℕ) (net other : NumberedNet) (to : ℕ → ℕ) (fresh : ℕ → ℕ → ℕ)
    → IsDividedNet parts net other to fresh
    → ((j : ℕ) → j < length net.edges → ((edge_at net.edges j).0 < net.nodes) × ((edge_at net.edges j).1 < net.nodes))
    → (e : ℕ) → e < length other.edges
    → ((edge_at other.edges e).0 < other.nodes) × ((edge_at other.edges e).1 < other.nodes)
parts_within parts net other to fresh d ends e e_m =
    let j_n : e / parts < length net.edges = div_below e parts (length net.edges) d.some (omega (arith, d.count)) in
    let i_p : e % parts < parts = mod_below e parts d.some in
    let is_e : e ≡ parts * (e / parts) + e % parts = omega (arith, div-add-mod' e parts) in
    let edge : edge_at other.edges e ≡ part_edge parts to fresh net.edges (e / parts) (e % parts) =
    ap (edge_at other.edges) is_e ∙ d.resistors (e / parts) (e % parts) j_n i_p in
    let (first, second) = ends (e / parts) j_n in (
      omega (
        arith,
        ap (λ (x : ℕ × ℕ × ℕ). x.0) edge,
        link_within parts net other to fresh d (e / parts) (e % parts) j_n (omega arith) first second,
      ),
      omega (
        arith,
        ap (λ (x : ℕ × ℕ × ℕ). x.1) edge,
        link_within parts net other to fresh d (e / parts) (e % parts + 1) j_n (omega arith) first second,
      ),
    )

-- no node of a divided net floats where none did
all_joined : (parts : ℕ) (net other : NumberedNet) (to : ℕ → ℕ) (fresh : ℕ → ℕ → ℕ)
    → IsDividedNet parts net other to fresh
    → NoneFloats net.nodes net.edges net.root
    → ((j : ℕ) → j < length net.edges → ((edge_at net.edges j).0 < net.nodes) × ((edge_at net.edges j).1 < net.nodes))
    → NoneFloats other.nodes other.edges other.root
all_joined parts net other to fresh d joined ends x x_m = each (d.each x x_m)
  where
    old : (k : ℕ) → k < net.nodes → AreJoined other.edges other.root (to k)
    old k k_n =
        let (path, chain) = joined k k_n in
        chain_joined parts net other to fresh d other.root net.root path k ([], d.root) chain

    each : ((k : ℕ) × (k < net.nodes) × (x ≡ to k))
        ⊎ ((j : ℕ) × (i : ℕ) × (j < length net.edges) × (0 < i) × (i < parts) × (x ≡ fresh j i))
        → AreJoined other.edges other.root x
    each (inl (k, k_n, e)) = subst (AreJoined other.edges other.root) (sym e) (old k k_n)
    each (inr (j, i, j_n, i_0, i_p, e)) =
        subst (AreJoined other.edges other.root) (link_mid parts to fresh net.edges j i i_0 i_p ∙ sym e)
        (forward parts net other to fresh d j other.root j_n
        (subst (AreJoined other.edges other.root) (sym (link_0 parts to fresh net.edges j 0 refl))
        (old (edge_at net.edges j).0 (ends j j_n).0))
        i (omega arith))

-- so many parts are the resistors and, for each, its new nodes
count_parts : (parts n : ℕ) → 0 < parts → parts * n ≡ n + n * (parts - 1)
count_parts zero n some = absurd (omega arith)
count_parts (suc q) n some =
    let less : suc q - 1 ≡ q = omega arith in
    rw less (omega arith)

pub divided_has_tree : DividedNetsHaveTrees
divided_has_tree parts net other to fresh d old order t =
    some_tree other.nodes other.root other.caps other.edges
    (omega (arith, d.root, d.within net.root (root_within net old order t)))
    (parts_within parts net other to fresh d (ends_within net old order t))
    (all_joined parts net other to fresh d t.joined (ends_within net old order t))
    (omega (arith, d.count, d.nodes, t.no_loop, count_parts parts (length net.edges) d.some))
