-- Divided trees: their old nodes, their chains, and sums over their nodes.
use Rattle.std.proofs.Common.{◌≡◌, ◌≢◌, ℕ, ◌<◌, true, false, List, refl, sym, ap, ◌∙◌, eqb, cond, arith, inl, inr, length}
use Rattle.std.proofs.lemmas.Bool.{eq-eqb, ne_eqb, cases_eq, cases_Bool, false≢true}
use Rattle.std.specs.List.{sum_by}
use Rattle.elmore.specs.Path.{nodes}
use Rattle.elmore.specs.Trees.{parent_of}
use Rattle.elmore.specs.declared.tree.Node.{Node}
use Rattle.elmore.proofs.SumLemmas.{sum_of_alike, sum_at}
use Rattle.divided_laws.specs.DividedTrees.{Chains, is_old, IsDivided}
use Rattle.divided_laws.proofs.SumByOwnerLemmas.{sum_by_owner}

pub old_at : (old new : List Node) (t : Chains) → IsDivided old new t → (u : ℕ) → u < length old
    → is_old t (t.at u) ≡ true
old_at old new t d u u_n = eq-eqb (t.at (t.owner (t.at u))) (t.at u) (ap t.at (d.owned u u_n))

pub at_owner : (t : Chains) (x : ℕ) → is_old t x ≡ true → t.at (t.owner x) ≡ x
at_owner t x is =
    elim (cases_eq (t.at (t.owner x)) x)
    [ inl e ↦ e | inr ne ↦ absurd (false≢true (sym (ne_eqb (t.at (t.owner x)) x ne) ∙ is)) ]

pub root_owner : (old new : List Node) (t : Chains) → IsDivided old new t → t.owner 0 ≡ 0
root_owner old new t d = ap t.owner (sym d.root) ∙ d.owned 0 d.old_tree.some_node

pub old_root : (old new : List Node) (t : Chains) → IsDivided old new t → is_old t 0 ≡ true
old_root old new t d = eq-eqb (t.at (t.owner 0)) 0 (ap t.at (root_owner old new t d) ∙ d.root)

-- an old node below the root stands for one below the root
pub owner_below : (old new : List Node) (t : Chains) → IsDivided old new t → (x : ℕ) → 0 < x → is_old t x ≡ true
    → 0 < t.owner x
owner_below old new t d x x_0 is =
    elim (cases_eq (t.owner x) 0) [
      | inl e ↦ absurd (omega (arith, sym (at_owner t x is) ∙ ap t.at e ∙ d.root))
      | inr ne ↦ omega arith
    ]

pub at_below : (old new : List Node) (t : Chains) → IsDivided old new t → (u : ℕ) → 0 < u → u < length old → 0 < t.at u
at_below old new t d u u_0 u_n =
    elim (cases_eq (t.at u) 0) [
      | inl e ↦ absurd (omega (arith, sym (d.owned u u_n) ∙ ap t.owner e ∙ root_owner old new t d))
      | inr ne ↦ omega arith
    ]

-- the next node of a chain
pub next_below : (old new : List Node) (t : Chains) → IsDivided old new t → (x : ℕ) → x < length new
    → is_old t x ≡ false → 0 < t.below x
next_below old new t d x x_m is =
    elim (cases_eq (t.below x) 0) [
      | inl e ↦
          let x_0 : x ≡ 0 = sym (d.next x x_m is) ∙ ap (parent_of new) e ∙ d.new_tree.root in
          absurd (false≢true (sym is ∙ ap (is_old t) x_0 ∙ old_root old new t d))
      | inr ne ↦ omega arith
    ]

pub next_above : (old new : List Node) (t : Chains) → IsDivided old new t → (x : ℕ) → x < length new
    → is_old t x ≡ false → x < t.below x
next_above old new t d x x_m is =
    omega (
      arith,
      d.next x x_m is,
      d.new_tree.smaller (t.below x) (next_below old new t d x x_m is) (d.goes_on x x_m is),
    )

pub next_other : (old new : List Node) (t : Chains) → IsDivided old new t → (x : ℕ) → x < length new
    → is_old t x ≡ false → t.below x ≢ x
next_other old new t d x x_m is e = absurd (omega (arith, e, next_above old new t d x x_m is))

pub next_owner : (old new : List Node) (t : Chains) → IsDivided old new t → (x : ℕ) → x < length new
    → is_old t x ≡ false → t.owner (t.below x) ≡ t.owner x
next_owner old new t d x x_m is =
    sym (d.from_new (t.below x) (next_below old new t d x x_m is) (d.goes_on x x_m is)
    (ap (is_old t) (d.next x x_m is) ∙ is))
    ∙ ap t.owner (d.next x x_m is)

-- what depends on the old node, or at a new node on the old node above it, does so at a node's parent
pub at_parent : {X : Type 0} (old new : List Node) (t : Chains) → IsDivided old new t → (F : ℕ → X) (x : ℕ) → 0 < x
    → x < length new
    → cond (is_old t (parent_of new x)) (F (t.owner (parent_of new x))) (F (parent_of old (t.owner (parent_of new x))))
    ≡ F (parent_of old (t.owner x))
at_parent old new t d F x x_0 x_m =
    elim (cases_Bool (is_old t (parent_of new x))) [
      | inl is ↦ rw is (ap F (d.from_old x x_0 x_m is))
      | inr is ↦ rw is (ap (λ u. F (parent_of old u)) (d.from_new x x_0 x_m is))
    ]

-- a sum over the divided tree of what new nodes do not add to
pub sum_divided : (old new : List Node) (t : Chains) → IsDivided old new t → (f g : ℕ → ℕ)
    → ((x : ℕ) → x < length new → is_old t x ≡ false → f x ≡ 0)
    → ((u : ℕ) → u < length old → f (t.at u) ≡ g u)
    → sum_by f (nodes (length new)) ≡ sum_by g (nodes (length old))
sum_divided old new t d f g none same =
    sum_by_owner t.owner (length new) (length old) d.owners f
    ∙ sum_of_alike (λ u. sum_by (λ x. cond (eqb u (t.owner x)) (f x) 0) (nodes (length new))) g (length old) one
  where
    -- of the nodes that u owns only its own place counts
    only_at : (u : ℕ) → u < length old → (x : ℕ) → x < length new
        → cond (eqb u (t.owner x)) (f x) 0 ≡ cond (eqb x (t.at u)) (f x) 0
    only_at u u_n x x_m =
        elim (cases_eq x (t.at u)) [
          | inl e ↦ rw (eq-eqb x (t.at u) e, eq-eqb u (t.owner x) (sym (ap t.owner e ∙ d.owned u u_n))) refl
          | inr x_u ↦
              rw (ne_eqb x (t.at u) x_u)
              (elim (cases_eq u (t.owner x)) [
                | inl e ↦
                    let apart : is_old t x ≡ false =
                    ne_eqb (t.at (t.owner x)) x (λ here. x_u (sym here ∙ ap t.at (sym e))) in
                    rw (eq-eqb u (t.owner x) e) (none x x_m apart)
                | inr ne ↦ rw (ne_eqb u (t.owner x) ne) refl
              ])
        ]

    one : (u : ℕ) → u < length old → sum_by (λ x. cond (eqb u (t.owner x)) (f x) 0) (nodes (length new)) ≡ g u
    one u u_n =
        sum_of_alike (λ x. cond (eqb u (t.owner x)) (f x) 0) (λ x. cond (eqb x (t.at u)) (f x) 0) (length new)
        (only_at u u_n)
        ∙ sum_at f (t.at u) 0 (length new) (omega arith) (omega (arith, d.within u u_n))
        ∙ same u u_n
