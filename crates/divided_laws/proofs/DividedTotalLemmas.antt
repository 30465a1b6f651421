-- All resistors and all capacitors of a divided tree.
use Rattle.std.proofs.Common.{◌≡◌, ◌≢◌, ℕ, ◌+◌, ◌<◌, Bool, true, false, List, refl, sym, ap, ◌∙◌, subst, eqb, cond, arith, inl, inr, length}
use Rattle.std.proofs.lemmas.Bool.{eq-eqb, ne_eqb, cases_eq, cases_Bool, false≢true}
use Rattle.std.specs.List.{sum_by}
use Rattle.elmore.specs.Path.{nodes}
use Rattle.elmore.specs.Trees.{parent_of, resistance, capacitance, total_resistance, total_capacitance}
use Rattle.elmore.specs.declared.tree.Node.{Node}
use Rattle.elmore.proofs.SumLemmas.{sum_of_both, sum_of_same, sum_of_none, sum_of_alike, sum_at}
use Rattle.elmore.proofs.TreeLemmas.{tree_falls, sum_of_nodes}
use Rattle.divided_laws.specs.DividedTrees.{Chains, is_old, IsDivided}
use Rattle.divided_laws.proofs.SumByOwnerLemmas.{sum_by_owner}
use Rattle.divided_laws.proofs.ChainLemmas.{old_root, old_at, at_below, sum_divided}

-- what each new node passes to its one child, all children together get
passed_down : (old new : List Node) (t : Chains) → IsDivided old new t → (f : ℕ → ℕ)
    → sum_by (λ y. cond (is_old t (parent_of new y)) 0 (f (parent_of new y))) (nodes (length new))
    ≡ sum_by (λ x. cond (is_old t x) 0 (f x)) (nodes (length new))
passed_down old new t d f =
    sum_by_owner (parent_of new) (length new) (length new) (λ y y_m. omega (arith, tree_falls new d.new_tree y)) got
    ∙ sum_of_alike (λ x. sum_by (from x) (nodes (length new))) (λ x. cond (is_old t x) 0 (f x)) (length new) one
  where
    got : ℕ → ℕ
    got y = cond (is_old t (parent_of new y)) 0 (f (parent_of new y))

    from : ℕ → ℕ → ℕ
    from x y = cond (eqb x (parent_of new y)) (got y) 0

    from_old_node : (x y : ℕ) → is_old t x ≡ true → from x y ≡ 0
    from_old_node x y is =
        elim (cases_eq x (parent_of new y)) [
          | inl e ↦
              let above : is_old t (parent_of new y) ≡ true = sym (ap (is_old t) e) ∙ is in
              rw (eq-eqb x (parent_of new y) e, above) refl
          | inr ne ↦ rw (ne_eqb x (parent_of new y) ne) refl
        ]

    from_new_node : (x y : ℕ) → x < length new → is_old t x ≡ false → y < length new
        → from x y ≡ cond (eqb y (t.below x)) (f x) 0
    from_new_node x y x_m is y_m =
        elim (cases_eq x (parent_of new y)) [
          | inl e ↦
              let above : is_old t (parent_of new y) ≡ false = sym (ap (is_old t) e) ∙ is in
              let apart : y ≢ x = λ same. top (e ∙ ap (parent_of new) same) in
              rw (eq-eqb x (parent_of new y) e, above, eq-eqb y (t.below x) (d.only x y x_m is y_m (sym e) apart))
              (ap f (sym e))
          | inr ne ↦
              rw (ne_eqb x (parent_of new y) ne)
              (rw (ne_eqb y (t.below x) (λ e. ne (sym (d.next x x_m is) ∙ ap (parent_of new) (sym e)))) refl)
        ]
      where
        -- no new node is a root
        top : x ≡ parent_of new x → ⊥
        top e =
            elim (cases_eq x 0) [
              | inl x_0 ↦ false≢true (sym is ∙ ap (is_old t) x_0 ∙ old_root old new t d)
              | inr x_0 ↦ absurd (omega (arith, e, d.new_tree.smaller x (omega arith) x_m))
            ]

    one : (x : ℕ) → x < length new → sum_by (from x) (nodes (length new)) ≡ cond (is_old t x) 0 (f x)
    one x x_m =
        elim (cases_Bool (is_old t x)) [
          | inl is ↦
              rw is
              (sum_of_alike (from x) (λ _. 0) (length new) (λ y y_m. from_old_node x y is)
              ∙ sum_of_none {X = ℕ} (nodes (length new)))
          | inr is ↦
              rw is
              (sum_of_alike (from x) (λ y. cond (eqb y (t.below x)) (f x) 0) (length new)
              (λ y y_m. from_new_node x y x_m is y_m)
              ∙ sum_at (λ _. f x) (t.below x) 0 (length new) (omega arith) (omega (arith, d.goes_on x x_m is)))
        ]

-- the resistance down to a node from the old node above it
abbrev down_to : Chains → ℕ → ℕ
down_to t x = cond (eqb x 0) 0 (t.so_far x)

-- it is the node's own, and what a new parent passes down
down_step : (old new : List Node) (t : Chains) → IsDivided old new t → (x : ℕ) → x < length new
    → down_to t x ≡ resistance new x + cond (is_old t (parent_of new x)) 0 (down_to t (parent_of new x))
down_step old new t d x x_m =
    elim (cases_eq x 0) [
      | inl x_0 ↦ subst holds (sym x_0) at_root
      | inr x_0 ↦
          let own : down_to t x ≡ t.so_far x = rw (ne_eqb x 0 x_0) refl in
          elim (cases_Bool (is_old t (parent_of new x))) [
            | inl is ↦ rw is (omega (arith, own, d.begins x (omega arith) x_m is))
            | inr is ↦
                let above : down_to t (parent_of new x) ≡ t.so_far (parent_of new x) =
                rw (ne_eqb (parent_of new x) 0
                (λ e. false≢true (sym is ∙ ap (is_old t) e ∙ old_root old new t d))) refl in
                rw is (omega (arith, own, above, d.adds x (omega arith) x_m is))
          ]
    ]
  where
    holds : ℕ → Type 0
    holds x = down_to t x ≡ resistance new x + cond (is_old t (parent_of new x)) 0 (down_to t (parent_of new x))

    at_root : holds 0
    at_root =
        let above : is_old t (parent_of new 0) ≡ true = ap (is_old t) d.new_tree.root ∙ old_root old new t d in
        rw above (omega (arith, d.new_tree.bare_root))

keeps_resistance : (old new : List Node) (t : Chains) → IsDivided old new t
    → total_resistance new ≡ total_resistance old
keeps_resistance old new t d =
    sym (sum_of_nodes (λ n. n.r) new)
    ∙ omega (
      arith,
      sum_of_alike (down_to t)
          (λ x. resistance new x + cond (is_old t (parent_of new x)) 0 (down_to t (parent_of new x)))
          (length new) (down_step old new t d),
      sum_of_both (resistance new) (λ x. cond (is_old t (parent_of new x)) 0 (down_to t (parent_of new x)))
          (nodes (length new)),
      passed_down old new t d (down_to t),
      sum_of_same (down_to t) (λ x. cond (is_old t x) (down_to t x) 0 + cond (is_old t x) 0 (down_to t x))
          (nodes (length new)) (λ x. apart (is_old t x) (down_to t x)),
      sum_of_both (λ x. cond (is_old t x) (down_to t x) 0) (λ x. cond (is_old t x) 0 (down_to t x))
          (nodes (length new)),
      sum_divided old new t d (λ x. cond (is_old t x) (down_to t x) 0) (resistance old)
          (λ x x_m is. rw is refl) whole,
    )
    ∙ sum_of_nodes (λ n. n.r) old
  where
    apart : (b : Bool) (k : ℕ) → k ≡ cond b k 0 + cond b 0 k
    apart true k = omega arith
    apart false k = omega arith

    whole : (u : ℕ) → u < length old → cond (is_old t (t.at u)) (down_to t (t.at u)) 0 ≡ resistance old u
    whole u u_n =
        rw (old_at old new t d u u_n)
        (elim (cases_eq u 0) [
          | inl e ↦
              ap (λ v. down_to t (t.at v)) e ∙ ap (down_to t) d.root
              ∙ sym (ap (resistance old) e ∙ d.old_tree.bare_root)
          | inr u_0 ↦
              let below : 0 < t.at u = at_below old new t d u (omega arith) u_n in
              rw (ne_eqb (t.at u) 0 (λ e. absurd (omega arith))) (d.all u (omega arith) u_n)
        ])

pub keeps_totals : (old new : List Node) (t : Chains) → IsDivided old new t
    → (total_resistance new ≡ total_resistance old) × (total_capacitance new ≡ total_capacitance old)
keeps_totals old new t d = (
  keeps_resistance old new t d,
  sym (sum_of_nodes (λ n. n.c) new)
      ∙ sum_divided old new t d (capacitance new) (capacitance old) d.bare d.capacitances
      ∙ sum_of_nodes (λ n. n.c) old,
)
