-- A node's load by its children: each edge that comes in adds one child.
use Rattle.std.proofs.Common.{◌≡◌, ℕ, zero, suc, ◌+◌, ◌<◌, Bool, true, false, not, ◌&&◌, refl, sym, ap, ◌∙◌, subst, eqb, cond, arith, inl, inr, Option, ◌-◌}
use Rattle.std.proofs.lemmas.Bool.{eq-eqb, ne_eqb, cases_eq, cases_lt}
use Rattle.std.specs.List.{sum_by, filter}
use Rattle.elmore.specs.Path.{is_child, nodes}
use Rattle.elmore.specs.Stage.{load, input_load}
use Rattle.elmore.specs.declared.rep.Rep.{Rep}
use Rattle.elmore.proofs.SumLemmas.{sum_of_filter, sum_of_both, sum_of_same, sum_of_none, sum_at}
use Rattle.elmore.proofs.RootLemmas.{IsRooted}
use Rattle.elmore.proofs.HangLemmas.{Hung, after_root}
use Rattle.elmore.proofs.CutLemmas.{cut, cut_hung, cut_none, cut_below, cut_from}
use Rattle.elmore.proofs.HungLoadLemmas.{load_hung, load_other, input_load_other}
use Rattle.elmore.proofs.LoadLemmas.{load_alone}

-- what is seen of u where it is a child of v
abbrev seen_child : (ℕ → ℕ) → (ℕ → ℕ) → (ℕ → Option Rep) → ℕ → ℕ → ℕ → ℕ
seen_child parent c cell n v u = cond (is_child parent v u) (input_load parent c cell n u) 0

-- a root is no child
no_child : (parent : ℕ → ℕ) (v u x : ℕ) → parent u ≡ u → cond (is_child parent v u) x 0 ≡ 0
no_child parent v u x root = rw root (never (eqb u v))
  where
    never : (b : Bool) → cond (b && not b) x 0 ≡ 0
    never true = refl
    never false = refl

child_hung : (before after : ℕ → ℕ) (i p : ℕ) → Hung before after i p → (c : ℕ → ℕ) (cell : ℕ → Option Rep) (n v u : ℕ)
    → seen_child after c cell n v u ≡ seen_child before c cell n v u + cond (eqb u i) (cond (eqb p v) (input_load before c cell n u) 0) 0
child_hung before after i p h c cell n v u =
    elim (cases_eq u i) [
      | inl e ↦
          rw (e, no_child before v i (input_load before c cell n i) h.root, h.edge, input_load_other before after i p h c cell n i h.apart, eq-eqb i i refl)
          (elim (cases_eq p v) [
            | inl p_v ↦ rw (eq-eqb p v p_v, ne_eqb i v (λ i_v. h.apart (i_v ∙ sym p_v))) (omega arith)
            | inr other ↦ rw (ne_eqb p v other) refl
          ])
      | inr u_i ↦
          rw (ne_eqb u i u_i)
          (elim (cases_eq u p) [
            | inl e ↦
                rw (e, no_child before v p (input_load before c cell n p) h.root_above, no_child after v p (input_load after c cell n p) (after_root before after i p h))
                refl
            | inr u_p ↦ rw (h.others u u_i, input_load_other before after i p h c cell n u u_p) (omega arith)
          ])
    ]

-- the load of v grows where its child hangs in
load_grows : (before after : ℕ → ℕ) (i p : ℕ) → Hung before after i p → (c : ℕ → ℕ) (cell : ℕ → Option Rep) (n : ℕ) → i < n → (v : ℕ)
    → load after c cell n v ≡ load before c cell n v + cond (eqb p v) (input_load before c cell n i) 0
load_grows before after i p h c cell n i_n v =
    elim (cases_eq p v) [
      | inl e ↦ rw (eq-eqb p v e, ← e) (load_hung before after i p h c cell n i_n)
      | inr other ↦ rw (ne_eqb p v other, load_other before after i p h c cell n v (λ e. other (sym e))) (omega arith)
    ]

children_grow : (before after : ℕ → ℕ) (i p : ℕ) → Hung before after i p → (c : ℕ → ℕ) (cell : ℕ → Option Rep) (n : ℕ) → i < n → (v : ℕ)
    → sum_by (seen_child after c cell n v) (nodes n) ≡ sum_by (seen_child before c cell n v) (nodes n) + cond (eqb p v) (input_load before c cell n i) 0
children_grow before after i p h c cell n i_n v =
    sum_of_same _ _ (nodes n) (child_hung before after i p h c cell n v)
    ∙ sum_of_both _ _ (nodes n)
    ∙ ap (λ (k : ℕ). sum_by (seen_child before c cell n v) (nodes n) + k)
    (sum_at (λ u. cond (eqb p v) (input_load before c cell n u) 0) i 0 n (omega arith) (omega arith))

pub load_children : (parent : ℕ → ℕ) (n : ℕ) → IsRooted parent n → (c : ℕ → ℕ) (cell : ℕ → Option Rep) (v : ℕ) → v < n
    → load parent c cell n v ≡ c v + sum_by (input_load parent c cell n) (filter (is_child parent v) (nodes n))
load_children parent n t c cell v v_n =
    omega (
      arith,
      subst (λ (f : ℕ → ℕ). load f c cell n v ≡ c v + sum_by (seen_child f c cell n v) (nodes n)) (cut_none parent 1 (omega arith) t.root)
          (down (n - 1) 1 (omega arith) (omega arith)),
      sum_of_filter (input_load parent c cell n) (is_child parent v) (nodes n),
    )
  where
    alone : (u : ℕ) → cut n parent u ≡ u
    alone u =
        elim (cases_lt u n) [
          | inl low ↦ cut_below n parent u low
          | inr high ↦ cut_from n parent u high ∙ t.past u high
        ]

    down : (k i : ℕ) → i + k ≡ n → 0 < i → load (cut i parent) c cell n v ≡ c v + sum_by (seen_child (cut i parent) c cell n v) (nodes n)
    down zero i e low =
        let last : i ≡ n = omega arith in
        rw last
        (omega (
          arith,
          load_alone (cut n parent) alone c cell n v v_n,
          sum_of_same (seen_child (cut n parent) c cell n v) (λ _. 0) (nodes n) (λ u. no_child (cut n parent) v u (input_load (cut n parent) c cell n u) (alone u)),
          sum_of_none {X = ℕ} (nodes n),
        ))
    down (suc k) i e low =
        let h : Hung (cut (i + 1) parent) (cut i parent) i (parent i) = cut_hung parent t.falls i (i + 1) refl (t.above i low (omega arith)) in
        omega (
          arith,
          down k (i + 1) (omega arith) (omega arith),
          load_grows _ _ i (parent i) h c cell n (omega arith) v,
          children_grow _ _ i (parent i) h c cell n (omega arith) v,
        )
