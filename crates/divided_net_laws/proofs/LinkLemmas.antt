-- The nodes and the parts of a divided resistor, from its first end and from above.
use Rattle.std.proofs.Common.{◌≡◌, ℕ, ◌+◌, ◌-◌, ◌*◌, ◌<◌, Bool, List, refl, sym, ap, ◌∙◌, cond, arith, inl, inr}
use Rattle.std.proofs.lemmas.Bool.{cases_Bool, eq-eqb, ne_eqb}
use Rattle.std.specs.List.{sum_by}
use Rattle.elmore.specs.Path.{nodes}
use Rattle.elmore.proofs.SumLemmas.{sum_of_alike}
use Rattle.rc_tree.specs.Chains.{edge_at}
use Rattle.divided_net_laws.specs.DividedNets.{part_of, link}
use Rattle.divided_net_laws.proofs.PartLemmas.{whole, turned}

-- part i of the resistor j as a resistor
abbrev pub part_edge : ℕ → (ℕ → ℕ) → (ℕ → ℕ → ℕ) → List (ℕ × ℕ × ℕ) → ℕ → ℕ → ℕ × ℕ × ℕ
part_edge parts to fresh edges j i =
    (link parts to fresh edges j i, link parts to fresh edges j (i + 1), part_of parts (edge_at edges j).2 i)

-- the node after d parts from above
unfoldable pub pos_in : ℕ → (ℕ → ℕ) → (ℕ → ℕ → ℕ) → List (ℕ × ℕ × ℕ) → (ℕ → Bool) → ℕ → ℕ → ℕ
pos_in parts to fresh edges ahead j d =
    cond (ahead j) (link parts to fresh edges j d) (link parts to fresh edges j (parts - d))

-- the number of the part within its resistor
unfoldable pub part_in : ℕ → (ℕ → Bool) → ℕ → ℕ → ℕ
part_in parts ahead j d = cond (ahead j) d (parts - (d + 1))

unfoldable pub r_in : ℕ → List (ℕ × ℕ × ℕ) → (ℕ → Bool) → ℕ → ℕ → ℕ
r_in parts edges ahead j d = part_of parts (edge_at edges j).2 (part_in parts ahead j d)

unfoldable pub index_in : ℕ → (ℕ → Bool) → ℕ → ℕ → ℕ
index_in parts ahead j d = parts * j + part_in parts ahead j d

-- the ends of a chain, and its new nodes
pub link_0 : (parts : ℕ) (to : ℕ → ℕ) (fresh : ℕ → ℕ → ℕ) (edges : List (ℕ × ℕ × ℕ)) (j i : ℕ) → i ≡ 0
    → link parts to fresh edges j i ≡ to (edge_at edges j).0
link_0 parts to fresh edges j i e = rw (eq-eqb i 0 e) refl

pub link_end : (parts : ℕ) (to : ℕ → ℕ) (fresh : ℕ → ℕ → ℕ) (edges : List (ℕ × ℕ × ℕ)) (j i : ℕ) → 0 < parts → i ≡ parts
    → link parts to fresh edges j i ≡ to (edge_at edges j).1
link_end parts to fresh edges j i some e = rw (ne_eqb i 0 (λ z. omega arith), eq-eqb i parts e) refl

pub link_mid : (parts : ℕ) (to : ℕ → ℕ) (fresh : ℕ → ℕ → ℕ) (edges : List (ℕ × ℕ × ℕ)) (j i : ℕ) → 0 < i → i < parts
    → link parts to fresh edges j i ≡ fresh j i
link_mid parts to fresh edges j i a b = rw (ne_eqb i 0 (λ z. omega arith), ne_eqb i parts (λ z. omega arith)) refl

-- the number of the new node after d parts
unfoldable pub mid_in : ℕ → (ℕ → Bool) → ℕ → ℕ → ℕ
mid_in parts ahead j d = cond (ahead j) d (parts - d)

pub mid_some : (parts : ℕ) (ahead : ℕ → Bool) (j d : ℕ) → 0 < d → d < parts
    → (0 < mid_in parts ahead j d) × (mid_in parts ahead j d < parts)
unfolding mid_in
mid_some parts ahead j d a b =
    elim (cases_Bool (ahead j)) [
      | inl is ↦ rw is (omega arith, omega arith)
      | inr is ↦ rw is (omega arith, omega arith)
    ]

pub mid_once : (parts : ℕ) (ahead : ℕ → Bool) (j d g : ℕ) → d < parts → g < parts
    → mid_in parts ahead j d ≡ mid_in parts ahead j g → d ≡ g
unfolding mid_in
mid_once parts ahead j d g d_n g_n same =
    elim (cases_Bool (ahead j)) [
      | inl is ↦ ap (λ (b : Bool). cond b d (parts - d)) (sym is) ∙ same ∙ ap (λ (b : Bool). cond b g (parts - g)) is
      | inr is ↦
          let turn : parts - d ≡ parts - g =
          ap (λ (b : Bool). cond b d (parts - d)) (sym is) ∙ same ∙ ap (λ (b : Bool). cond b g (parts - g)) is in
          omega (arith, turn)
    ]

pub pos_mid : (parts : ℕ) (to : ℕ → ℕ) (fresh : ℕ → ℕ → ℕ) (edges : List (ℕ × ℕ × ℕ)) (ahead : ℕ → Bool) (j d : ℕ)
    → 0 < d → d < parts
    → pos_in parts to fresh edges ahead j d ≡ fresh j (mid_in parts ahead j d)
unfolding pos_in mid_in
pos_mid parts to fresh edges ahead j d a b =
    elim (cases_Bool (ahead j)) [
      | inl is ↦ rw is (link_mid parts to fresh edges j d a b)
      | inr is ↦ rw is (link_mid parts to fresh edges j (parts - d) (omega arith) (omega arith))
    ]

pub pos_end : (parts : ℕ) (to : ℕ → ℕ) (fresh : ℕ → ℕ → ℕ) (edges : List (ℕ × ℕ × ℕ)) (ahead : ℕ → Bool) (j d : ℕ)
    → 0 < parts → d ≡ parts
    → pos_in parts to fresh edges ahead j d ≡ to (cond (ahead j) (edge_at edges j).1 (edge_at edges j).0)
unfolding pos_in
pos_end parts to fresh edges ahead j d some e =
    elim (cases_Bool (ahead j)) [
      | inl is ↦ rw is (link_end parts to fresh edges j d some e)
      | inr is ↦ rw is (link_0 parts to fresh edges j (parts - d) (omega arith))
    ]

pub pos_top : (parts : ℕ) (to : ℕ → ℕ) (fresh : ℕ → ℕ → ℕ) (edges : List (ℕ × ℕ × ℕ)) (ahead : ℕ → Bool) (j d : ℕ)
    → 0 < parts → d ≡ 0
    → pos_in parts to fresh edges ahead j d ≡ to (cond (ahead j) (edge_at edges j).0 (edge_at edges j).1)
unfolding pos_in
pos_top parts to fresh edges ahead j d some e =
    elim (cases_Bool (ahead j)) [
      | inl is ↦ rw is (link_0 parts to fresh edges j d e)
      | inr is ↦ rw is (link_end parts to fresh edges j (parts - d) some (omega arith))
    ]

-- all parts together
pub r_whole : (parts : ℕ) (edges : List (ℕ × ℕ × ℕ)) (ahead : ℕ → Bool) (j : ℕ) → 0 < parts
    → sum_by (r_in parts edges ahead j) (nodes parts) ≡ (edge_at edges j).2
unfolding r_in part_in
r_whole parts edges ahead j some =
    elim (cases_Bool (ahead j)) [
      | inl is ↦
          sum_of_alike (r_in parts edges ahead j) (part_of parts (edge_at edges j).2) parts
          (λ d d_n. ap (λ (b : Bool). part_of parts (edge_at edges j).2 (cond b d (parts - (d + 1)))) is)
          ∙ whole parts (edge_at edges j).2 some
      | inr is ↦
          sum_of_alike (r_in parts edges ahead j) (λ d. part_of parts (edge_at edges j).2 (parts - (d + 1))) parts
          (λ d d_n. ap (λ (b : Bool). part_of parts (edge_at edges j).2 (cond b d (parts - (d + 1)))) is)
          ∙ turned (part_of parts (edge_at edges j).2) parts
          ∙ whole parts (edge_at edges j).2 some
    ]
