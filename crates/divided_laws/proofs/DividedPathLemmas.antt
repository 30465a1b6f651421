-- Paths of a divided tree, and the sinks below its nodes.
use Rattle.std.proofs.Common.{◌≡◌, ◌≢◌, ℕ, ◌<◌, Bool, true, false, not, ◌&&◌, List, Option, refl, sym, ap, ◌∙◌, eqb, cond, arith, inl, inr, length, get_or}
use Rattle.std.proofs.lemmas.Bool.{eq-eqb, ne_eqb, cases_eq, cases_Bool, and_parts, false≢true}
use Rattle.std.proofs.lemmas.List.Folds.{list_any_at, list_any_none}
use Rattle.std.proofs.lemmas.List.FromFn.{length-range_with_len, get_or-range_with_len}
use Rattle.std.specs.List.{list_any}
use Rattle.elmore.specs.Path.{is_over, nodes}
use Rattle.elmore.specs.Trees.{parent_of}
use Rattle.elmore.specs.Problems.{is_sink, is_above_sink}
use Rattle.elmore.specs.declared.tree.Node.{Node}
use Rattle.elmore.specs.declared.parts.Sink.{Sink}
use Rattle.elmore.proofs.PathLemmas.{over_self, over_at_root, over_below}
use Rattle.elmore.proofs.RootLemmas.{IsRooted, from_root}
use Rattle.elmore.proofs.TreeLemmas.{tree_of}
use Rattle.divided_laws.specs.DividedTrees.{Chains, is_old, IsDivided}
use Rattle.divided_laws.proofs.ChainLemmas.{old_at, at_owner, root_owner, old_root, owner_below, at_parent}

-- an old node is over what it was over, and over the chains below
over_divided : (old new : List Node) (t : Chains) → IsDivided old new t
    → (v : ℕ) → v < length old → (x : ℕ) → x < length new
    → is_over (parent_of new) (t.at v) x
    ≡ cond (is_old t x) (is_over (parent_of old) v (t.owner x))
    (is_over (parent_of old) v (parent_of old (t.owner x)))
over_divided old new t d v v_n =
    from_root (parent_of new) (length new) many
    (λ x. is_over (parent_of new) (t.at v) x
    ≡ cond (is_old t x) (over (t.owner x)) (over (parent_of old (t.owner x))))
    (rw (old_root old new t d, root_owner old new t d)
    (elim (cases_eq v 0) [
      | inl e ↦
          ap (λ y. is_over (parent_of new) y 0) (ap t.at e ∙ d.root) ∙ over_self (parent_of new) many.falls 0
          ∙ sym (ap (λ y. is_over (parent_of old) y 0) e ∙ over_self (parent_of old) few.falls 0)
      | inr ne ↦
          over_at_root (parent_of new) many.falls (t.at v) 0 many.root
          (λ e. ne (sym (d.owned v v_n) ∙ ap t.owner (sym e) ∙ root_owner old new t d))
          ∙ sym (over_at_root (parent_of old) few.falls v 0 few.root (λ e. ne (sym e)))
    ]))
    (λ x x_0 x_m more.
    let edge : parent_of new x ≢ x = λ e. absurd (omega (arith, many.above x x_0 x_m)) in
    let above : is_over (parent_of new) (t.at v) (parent_of new x) ≡ over (parent_of old (t.owner x)) =
    more ∙ at_parent old new t d over x x_0 x_m in
    elim (cases_Bool (is_old t x)) [
      | inl is ↦
          rw is
          (elim (cases_eq (t.owner x) v) [
            | inl e ↦
                ap (is_over (parent_of new) (t.at v)) (sym (at_owner t x is) ∙ ap t.at e)
                ∙ over_self (parent_of new) many.falls (t.at v)
                ∙ sym (ap over e ∙ over_self (parent_of old) few.falls v)
            | inr ne ↦
                let u_0 : 0 < t.owner x = owner_below old new t d x x_0 is in
                over_below (parent_of new) many.falls (t.at v) x edge (λ e. ne (ap t.owner e ∙ d.owned v v_n))
                ∙ above
                ∙ sym (over_below (parent_of old) few.falls v (t.owner x)
                (λ e. absurd (omega (arith, few.above (t.owner x) u_0 (d.owners x x_m)))) ne)
          ])
      | inr is ↦
          rw is
          (over_below (parent_of new) many.falls (t.at v) x edge
          (λ e. false≢true (sym is ∙ ap (is_old t) e ∙ old_at old new t d v v_n))
          ∙ above)
    ])
  where
    over : ℕ → Bool
    over u = is_over (parent_of old) v u

    many : IsRooted (parent_of new) (length new)
    many = tree_of new d.new_tree

    few : IsRooted (parent_of old) (length old)
    few = tree_of old d.old_tree

-- between old nodes all is as it was
pub over_old : (old new : List Node) (t : Chains) → IsDivided old new t → (v u : ℕ) → v < length old → u < length old
    → is_over (parent_of new) (t.at v) (t.at u) ≡ is_over (parent_of old) v u
over_old old new t d v u v_n u_n =
    over_divided old new t d v v_n (t.at u) (d.within u u_n)
    ∙ rw (old_at old new t d u u_n, d.owned u u_n) refl

-- where each number that passes one test is moved to one that passes another, some number passes it
any_moved : (test further : ℕ → Bool) (at : ℕ → ℕ) (n m : ℕ)
    → ((w : ℕ) → w < n → test w ≡ true → (at w < m) × (further (at w) ≡ true))
    → list_any test (nodes n) ≡ true
    → list_any further (nodes m) ≡ true
any_moved test further at n m moves some =
    elim (cases_Bool (list_any further (nodes m))) [
      | inl is ↦ is
      | inr is ↦
          let never : list_any test (nodes n) ≡ false =
          list_any_none test (nodes n) (λ k d k_n. none k d (omega (arith, k_n, length-range_with_len 0 n)) is) in
          absurd (false≢true (sym never ∙ some))
    ]
  where
    passes : (k : ℕ) → k < n → list_any further (nodes m) ≡ false → test k ≡ true → ⊥
    passes k k_n is holds =
        let (at_m, also) = moves k k_n holds in
        let read : get_or (nodes m) (at k) 0 ≡ at k = get_or-range_with_len 0 m (at k) 0 at_m ∙ omega arith in
        let found : list_any further (nodes m) ≡ true =
        list_any_at further (nodes m) (at k) 0 (omega (arith, length-range_with_len 0 m, at_m))
        (ap further read ∙ also) in
        false≢true (sym is ∙ found)

    none : (k d : ℕ) → k < n → list_any further (nodes m) ≡ false → test (get_or (nodes n) k d) ≡ false
    none k d k_n is =
        elim (cases_Bool (test k)) [
          | inl holds ↦ absurd (passes k k_n is holds)
          | inr fails ↦
              let read : get_or (nodes n) k d ≡ k = get_or-range_with_len 0 n k d k_n ∙ omega arith in
              ap test read ∙ fails
        ]

pub keeps_sinks_below : (old new : List Node) (t : Chains) (sinks more : List (Option Sink)) → IsDivided old new t
    → ((u : ℕ) → u < length old → is_sink more (t.at u) ≡ is_sink sinks u)
    → (u : ℕ) → u < length old → is_above_sink old sinks u ≡ true → is_above_sink new more (t.at u) ≡ true
unfolding is_above_sink
keeps_sinks_below old new t sinks more d same u u_n =
    any_moved (λ w. is_sink sinks w && (is_over (parent_of old) u w && not (eqb w u)))
    (λ x. is_sink more x && (is_over (parent_of new) (t.at u) x && not (eqb x (t.at u)))) t.at (length old) (length new)
    (λ w w_n holds.
    let (sink, below) = and_parts (is_sink sinks w) (is_over (parent_of old) u w && not (eqb w u)) holds in
    let (over, other) = and_parts (is_over (parent_of old) u w) (not (eqb w u)) below in
    let w_u : w ≢ u = λ e. false≢true (sym (ap not (eq-eqb w u e)) ∙ other) in
    let apart : t.at w ≢ t.at u = λ e. w_u (sym (d.owned w w_n) ∙ ap t.owner e ∙ d.owned u u_n) in (
      d.within w w_n,
      rw (same w w_n, sink, over_old old new t d u w u_n w_n, over, ne_eqb (t.at w) (t.at u) apart) refl,
    ))
