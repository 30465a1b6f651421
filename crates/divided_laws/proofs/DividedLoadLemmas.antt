-- Divided trees: stages and loads at the old nodes.
use Rattle.std.proofs.Common.{◌≡◌, ◌≢◌, ℕ, zero, suc, ◌+◌, ◌<◌, ◌≤◌, Bool, true, false, ◌&&◌, List, refl, sym, ap, ◌∙◌, eqb, cond, arith, inl, inr, Option, None, length, is_some}
use Rattle.std.proofs.lemmas.Bool.{eq-eqb, ne_eqb, cases_eq, cases_Bool, false≢true}
use Rattle.elmore.specs.Path.{nodes, is_child}
use Rattle.elmore.specs.Cells.{has_cell, input_capacitance}
use Rattle.elmore.specs.Stage.{in_stage, ends_stage, load, input_load, seen}
use Rattle.elmore.specs.Trees.{parent_of, capacitance}
use Rattle.elmore.specs.declared.tree.Node.{Node}
use Rattle.elmore.specs.declared.rep.Rep.{Rep}
use Rattle.elmore.proofs.RootLemmas.{IsRooted, from_root}
use Rattle.elmore.proofs.StageLemmas.{stage_self, stage_at_root, stage_below, end_self, end_at_root, end_below}
use Rattle.elmore.proofs.SumLemmas.{sum_of_filter, sum_of_alike, sum_at}
use Rattle.elmore.proofs.HungLoadLemmas.{load_parts, stage_part, ends_part}
use Rattle.elmore.proofs.ChildLoadLemmas.{load_children}
use Rattle.elmore.proofs.TreeLemmas.{tree_of}
use Rattle.divided_laws.specs.DividedTrees.{Chains, is_old, IsDivided}
use Rattle.divided_laws.proofs.ChainLemmas.{old_at, at_owner, root_owner, old_root, owner_below, at_below, next_above, next_other, next_owner, at_parent, sum_divided}

-- stages and loads of a tree of nodes with cells
abbrev pub stage_at : List Node → (ℕ → Option Rep) → ℕ → ℕ → Bool
stage_at nodes cell = in_stage (parent_of nodes) cell

abbrev pub end_at : List Node → (ℕ → Option Rep) → ℕ → ℕ → Bool
end_at nodes cell = ends_stage (parent_of nodes) cell

abbrev pub load_at : List Node → (ℕ → Option Rep) → ℕ → ℕ
load_at nodes cell = load (parent_of nodes) (capacitance nodes) cell (length nodes)

abbrev pub input_load_at : List Node → (ℕ → Option Rep) → ℕ → ℕ
input_load_at nodes cell = input_load (parent_of nodes) (capacitance nodes) cell (length nodes)

pub record AreCells (old new : List Node) (t : Chains) (a b : ℕ → Option Rep) : Type 0 where
  pub same : (u : ℕ) → u < length old → b (t.at u) ≡ a u
  pub none : (x : ℕ) → x < length new → is_old t x ≡ false → b x ≡ None

-- the cell of an old node
pub cell_old : (old new : List Node) (t : Chains) (a b : ℕ → Option Rep) → IsDivided old new t → AreCells old new t a b
    → (x : ℕ) → x < length new → is_old t x ≡ true → b x ≡ a (t.owner x)
cell_old old new t a b d k x x_m is = ap b (sym (at_owner t x is)) ∙ k.same (t.owner x) (d.owners x x_m)

-- a stage of the divided tree
stage_divided : (old new : List Node) (t : Chains) (a b : ℕ → Option Rep) → IsDivided old new t → AreCells old new t a b
    → (v : ℕ) → v < length old → (x : ℕ) → x < length new
    → stage_at new b (t.at v) x
    ≡ cond (is_old t x) (stage_at old a v (t.owner x)) (stage_at old a v (parent_of old (t.owner x)))
stage_divided old new t a b d k v v_n =
    from_root (parent_of new) (length new) many
    (λ x. stage_at new b (t.at v) x ≡ cond (is_old t x) (S (t.owner x)) (S (parent_of old (t.owner x))))
    (rw (old_root old new t d, root_owner old new t d)
    (elim (cases_eq v 0) [
      | inl e ↦
          let at_0 : t.at v ≡ 0 = ap t.at e ∙ d.root in
          ap (λ y. stage_at new b y 0) at_0 ∙ stage_self (parent_of new) b many.falls 0
          ∙ sym (ap (λ y. stage_at old a y 0) e ∙ stage_self (parent_of old) a few.falls 0)
      | inr ne ↦
          stage_at_root (parent_of new) b many.falls (t.at v) 0 many.root
          (λ e. ne (sym (d.owned v v_n) ∙ ap t.owner (sym e) ∙ root_owner old new t d))
          ∙ sym (stage_at_root (parent_of old) a few.falls v 0 few.root (λ e. ne (sym e)))
    ]))
    (λ x x_0 x_m more.
    let edge : parent_of new x ≢ x = λ e. absurd (omega (arith, many.above x x_0 x_m)) in
    let above : stage_at new b (t.at v) (parent_of new x) ≡ S (parent_of old (t.owner x)) =
    more ∙ at_parent old new t d S x x_0 x_m in
    elim (cases_Bool (is_old t x)) [
      | inl is ↦
          rw is
          (elim (cases_eq (t.owner x) v) [
            | inl e ↦
                ap (stage_at new b (t.at v)) (sym (at_owner t x is) ∙ ap t.at e)
                ∙ stage_self (parent_of new) b many.falls (t.at v)
                ∙ sym (ap (stage_at old a v) e ∙ stage_self (parent_of old) a few.falls v)
            | inr ne ↦
                stage_below (parent_of new) b many.falls (t.at v) x edge (λ e. ne (ap t.owner e ∙ d.owned v v_n))
                ∙ ap (λ (o : Option Rep). cond (is_some o) false (stage_at new b (t.at v) (parent_of new x)))
                (cell_old old new t a b d k x x_m is)
                ∙ ap (cond (has_cell a (t.owner x)) false) above
                ∙ sym (stage_below (parent_of old) a few.falls v (t.owner x)
                (λ e. absurd
                (omega (arith, few.above (t.owner x) (owner_below old new t d x x_0 is) (d.owners x x_m)))) ne)
          ])
      | inr is ↦
          rw is
          (stage_below (parent_of new) b many.falls (t.at v) x edge
          (λ e. false≢true (sym is ∙ ap (is_old t) e ∙ old_at old new t d v v_n))
          ∙ ap (λ (o : Option Rep). cond (is_some o) false (stage_at new b (t.at v) (parent_of new x)))
          (k.none x x_m is)
          ∙ above)
    ])
  where
    S : ℕ → Bool
    S u = stage_at old a v u

    many : IsRooted (parent_of new) (length new)
    many = tree_of new d.new_tree

    few : IsRooted (parent_of old) (length old)
    few = tree_of old d.old_tree

-- an old node ends a stage where it did
end_divided : (old new : List Node) (t : Chains) (a b : ℕ → Option Rep) → IsDivided old new t → AreCells old new t a b
    → (v u : ℕ) → v < length old → u < length old
    → end_at new b (t.at v) (t.at u) ≡ end_at old a v u
end_divided old new t a b d k v u v_n u_n =
    elim (cases_eq u v) [
      | inl e ↦
          ap (λ y. end_at new b (t.at v) (t.at y)) e ∙ end_self (parent_of new) b many.falls (t.at v)
          ∙ sym (ap (end_at old a v) e ∙ end_self (parent_of old) a few.falls v)
      | inr u_v ↦
          let apart : t.at u ≢ t.at v = λ e. u_v (sym (d.owned u u_n) ∙ ap t.owner e ∙ d.owned v v_n) in
          elim (cases_eq u 0) [
            | inl e ↦
                let at_0 : t.at u ≡ 0 = ap t.at e ∙ d.root in
                end_at_root (parent_of new) b many.falls (t.at v) (t.at u)
                (ap (parent_of new) at_0 ∙ many.root ∙ sym at_0) apart
                ∙ sym (end_at_root (parent_of old) a few.falls v u (ap (parent_of old) e ∙ few.root ∙ sym e) u_v)
            | inr u_0 ↦
                let below : 0 < t.at u = at_below old new t d u (omega arith) u_n in
                let up : stage_at new b (t.at v) (parent_of new (t.at u)) ≡ stage_at old a v (parent_of old u) =
                stage_divided old new t a b d k v v_n (parent_of new (t.at u))
                (omega (arith, many.above (t.at u) below (d.within u u_n), d.within u u_n))
                ∙ at_parent old new t d (λ y. stage_at old a v y) (t.at u) below (d.within u u_n)
                ∙ ap (λ y. stage_at old a v (parent_of old y)) (d.owned u u_n) in
                end_below (parent_of new) b many.falls (t.at v) (t.at u)
                (λ e. absurd (omega (arith, many.above (t.at u) below (d.within u u_n)))) apart
                ∙ ap (λ (o : Option Rep). cond (is_some o) (stage_at new b (t.at v) (parent_of new (t.at u))) false)
                (k.same u u_n)
                ∙ ap (λ (y : Bool). cond (has_cell a u) y false) up
                ∙ sym (end_below (parent_of old) a few.falls v u
                (λ e. absurd (omega (arith, few.above u (omega arith) u_n))) u_v)
          ]
    ]
  where
    many : IsRooted (parent_of new) (length new)
    many = tree_of new d.new_tree

    few : IsRooted (parent_of old) (length old)
    few = tree_of old d.old_tree

pub load_divided : (old new : List Node) (t : Chains) (a b : ℕ → Option Rep) → IsDivided old new t
    → AreCells old new t a b
    → (v : ℕ) → v < length old
    → load_at new b (t.at v) ≡ load_at old a v
unfolding stage_part ends_part
load_divided old new t a b d k v v_n =
    omega (
      arith,
      load_parts (parent_of new) (capacitance new) b (length new) (t.at v),
      load_parts (parent_of old) (capacitance old) a (length old) v,
      sum_divided old new t d
          (λ x. cond (stage_at new b (t.at v) x) (capacitance new x) 0)
          (λ u. cond (stage_at old a v u) (capacitance old u) 0)
          (λ x x_m is. rw (d.bare x x_m is) (nothing (stage_at new b (t.at v) x)))
          (λ u u_n. rw (d.capacitances u u_n, stage_same u u_n) refl),
      sum_divided old new t d
          (λ x. cond (end_at new b (t.at v) x) (input_capacitance (b x)) 0)
          (λ u. cond (end_at old a v u) (input_capacitance (a u)) 0)
          (λ x x_m is. rw (k.none x x_m is) (nothing (end_at new b (t.at v) x)))
          (λ u u_n. rw (k.same u u_n, end_divided old new t a b d k v u v_n u_n) refl),
    )
  where
    nothing : (y : Bool) → cond {A = ℕ} y 0 0 ≡ 0
    nothing true = refl
    nothing false = refl

    stage_same : (u : ℕ) → u < length old → stage_at new b (t.at v) (t.at u) ≡ stage_at old a v u
    stage_same u u_n =
        stage_divided old new t a b d k v v_n (t.at u) (d.within u u_n)
        ∙ ap (λ y. cond y (stage_at old a v (t.owner (t.at u))) (stage_at old a v (parent_of old (t.owner (t.at u)))))
        (old_at old new t d u u_n)
        ∙ ap (stage_at old a v) (d.owned u u_n)

pub input_load_old : (old new : List Node) (t : Chains) (a b : ℕ → Option Rep) → IsDivided old new t
    → AreCells old new t a b
    → (v : ℕ) → v < length old
    → input_load_at new b (t.at v) ≡ input_load_at old a v
unfolding input_load
input_load_old old new t a b d k v v_n =
    ap (λ o. seen o (load_at new b (t.at v))) (k.same v v_n)
    ∙ ap (seen (a v)) (load_divided old new t a b d k v v_n)

-- a new node is seen as the next node below it
input_load_next : (old new : List Node) (t : Chains) (a b : ℕ → Option Rep) → IsDivided old new t
    → AreCells old new t a b
    → (x : ℕ) → x < length new → is_old t x ≡ false
    → input_load_at new b x ≡ input_load_at new b (t.below x)
unfolding input_load
input_load_next old new t a b d k x x_m is =
    ap (λ o. seen o (load_at new b x)) (k.none x x_m is)
    ∙ load_children (parent_of new) (length new) many (capacitance new) b x x_m
    ∙ omega (
      arith,
      d.bare x x_m is,
      sum_of_filter (input_load_at new b) (is_child (parent_of new) x) (nodes (length new)),
      sum_of_alike
          (λ w. cond (is_child (parent_of new) x w) (input_load_at new b w) 0)
          (λ w. cond (eqb w (t.below x)) (input_load_at new b w) 0)
          (length new)
          (λ w w_m. ap (λ (y : Bool). cond y (input_load_at new b w) 0) (child w w_m)),
      sum_at (input_load_at new b) (t.below x) 0 (length new) (omega arith) (omega (arith, d.goes_on x x_m is)),
    )
  where
    many : IsRooted (parent_of new) (length new)
    many = tree_of new d.new_tree

    no_and : (y : Bool) → (y && false) ≡ false
    no_and true = refl
    no_and false = refl

    child : (w : ℕ) → w < length new → is_child (parent_of new) x w ≡ eqb w (t.below x)
    child w w_m =
        elim (cases_eq w (t.below x)) [
          | inl e ↦
              let up : parent_of new w ≡ x = ap (parent_of new) e ∙ d.next x x_m is in
              let other : w ≢ x = λ same. next_other old new t d x x_m is (sym e ∙ same) in
              rw (eq-eqb w (t.below x) e, eq-eqb (parent_of new w) x up, ne_eqb w x other) refl
          | inr ne ↦
              rw (ne_eqb w (t.below x) ne)
              (elim (cases_eq w x) [
                | inl e ↦ rw (eq-eqb w x e) (no_and (eqb (parent_of new w) x))
                | inr w_x ↦ rw (ne_eqb (parent_of new w) x (λ up. ne (d.only x w x_m is w_m up w_x))) refl
              ])
        ]

-- each node is seen as the old node at the lower end of its chain
pub input_load_divided : (old new : List Node) (t : Chains) (a b : ℕ → Option Rep) → IsDivided old new t
    → AreCells old new t a b
    → (k x : ℕ) → x < length new → length new ≤ x + k
    → input_load_at new b x ≡ input_load_at old a (t.owner x)
input_load_divided old new t a b d cells zero x x_m room = absurd (omega arith)
input_load_divided old new t a b d cells (suc k) x x_m room =
    elim (cases_Bool (is_old t x)) [
      | inl is ↦
          ap (input_load_at new b) (sym (at_owner t x is))
          ∙ input_load_old old new t a b d cells (t.owner x) (d.owners x x_m)
      | inr is ↦
          input_load_next old new t a b d cells x x_m is
          ∙ input_load_divided old new t a b d cells k (t.below x) (d.goes_on x x_m is)
          (omega (arith, room, next_above old new t d x x_m is))
          ∙ ap (input_load_at old a) (next_owner old new t d x x_m is)
    ]
