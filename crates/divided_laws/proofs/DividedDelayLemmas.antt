-- Divided trees: delays and inverters at the old nodes, and the wire delays to them.
use Rattle.std.proofs.Common.{◌≡◌, ◌≢◌, ℕ, ◌+◌, ◌*◌, ◌<◌, List, refl, sym, ap, ◌∙◌, cond, arith, inl, inr, Option, None, length}
use Rattle.std.proofs.lemmas.Bool.{cases_Bool}
use Rattle.elmore.specs.Path.{nodes}
use Rattle.elmore.specs.Cells.{cell_at, rep_of, cell_delay, is_inverter}
use Rattle.elmore.specs.Delay.{delay_from, inverters_from}
use Rattle.elmore.specs.Trees.{parent_of, resistance, capacitance}
use Rattle.elmore.specs.declared.tree.Node.{Node}
use Rattle.elmore.specs.declared.rep.Rep.{Rep}
use Rattle.elmore.proofs.RootLemmas.{IsRooted, from_root}
use Rattle.elmore.proofs.PlacedDelayLemmas.{step_delay, delay_self, delay_below}
use Rattle.elmore.proofs.PlacedInverterLemmas.{step_inverters, inverters_self, inverters_below}
use Rattle.elmore.proofs.TreeLemmas.{tree_of}
use Rattle.elmore.proofs.WireLemmas.{bare_delay}
use Rattle.elmore.specs.Wire.{delay_in}
use Rattle.divided_laws.specs.DividedTrees.{Chains, is_old, IsDivided, AreSameCells, ActsAlike}
use Rattle.divided_laws.proofs.ChainLemmas.{old_at, at_owner, root_owner, old_root, owner_below, at_parent}
use Rattle.divided_laws.proofs.DividedLoadLemmas.{AreCells, cell_old, load_at, input_load_at, load_divided, input_load_old, input_load_divided}

-- delays and inverters from the root down
abbrev delay_at : List Node → (ℕ → Option Rep) → ℕ → ℕ
delay_at nodes cell = delay_from (parent_of nodes) (resistance nodes) (capacitance nodes) cell (length nodes) 0

abbrev inverters_at : List Node → (ℕ → Option Rep) → ℕ → ℕ
inverters_at nodes cell = inverters_from (parent_of nodes) cell 0

-- a new node is later than the old node above it by the resistance so far times what is seen of its chain
pub delay_divided : (old new : List Node) (t : Chains) (a b : ℕ → Option Rep) → IsDivided old new t
    → AreCells old new t a b
    → (x : ℕ) → x < length new
    → delay_at new b x
    ≡ cond (is_old t x) (delay_at old a (t.owner x))
    (delay_at old a (parent_of old (t.owner x)) + t.so_far x * input_load_at old a (t.owner x))
delay_divided old new t a b d k =
    from_root (parent_of new) (length new) many
    (λ x. delay_at new b x
    ≡ cond (is_old t x) (delay_at old a (t.owner x))
    (delay_at old a (parent_of old (t.owner x)) + t.so_far x * input_load_at old a (t.owner x)))
    (rw (old_root old new t d, root_owner old new t d)
    (delay_self (parent_of new) many.falls (resistance new) (capacitance new) b (length new) 0
    ∙ ap (λ o. cell_delay o (load_at new b 0)) cell_0
    ∙ ap (cell_delay (a 0)) load_0
    ∙ sym (delay_self (parent_of old) few.falls (resistance old) (capacitance old) a (length old) 0)))
    (λ x x_0 x_m more.
    let edge : parent_of new x ≢ x = λ e. absurd (omega (arith, many.above x x_0 x_m)) in
    let step : delay_at new b x
    ≡ delay_at new b (parent_of new x)
    + step_delay (parent_of new) (resistance new) (capacitance new) b (length new) x =
    delay_below (parent_of new) many.falls (resistance new) (capacitance new) b (length new) 0 x edge
    (λ e. absurd (omega arith)) in
    let seen_as : input_load_at new b x ≡ input_load_at old a (t.owner x) =
    input_load_divided old new t a b d k (length new) x x_m (omega arith) in
    let wire : resistance new x * input_load_at new b x ≡ resistance new x * input_load_at old a (t.owner x) =
    ap (λ y. resistance new x * y) seen_as in
    let through : delay_at new b (parent_of new x) + resistance new x * input_load_at old a (t.owner x)
    ≡ delay_at old a (parent_of old (t.owner x)) + t.so_far x * input_load_at old a (t.owner x) =
    chain x x_0 x_m more in
    elim (cases_Bool (is_old t x)) [
      | inl is ↦
          let u_0 : 0 < t.owner x = owner_below old new t d x x_0 is in
          let u_n : t.owner x < length old = d.owners x x_m in
          let whole : t.so_far x ≡ resistance old (t.owner x) =
          ap t.so_far (sym (at_owner t x is)) ∙ d.all (t.owner x) u_0 u_n in
          let cell_same : cell_delay (b x) (load_at new b x) ≡ cell_delay (a (t.owner x)) (load_at old a (t.owner x)) =
          ap (λ o. cell_delay o (load_at new b x)) (cell_old old new t a b d k x x_m is)
          ∙ ap (cell_delay (a (t.owner x)))
          (ap (load_at new b) (sym (at_owner t x is)) ∙ load_divided old new t a b d k (t.owner x) u_n) in
          rw is
          (omega (
            arith,
            step,
            wire,
            through,
            cell_same,
            ap (λ y. y * input_load_at old a (t.owner x)) whole,
            delay_below (parent_of old) few.falls (resistance old) (capacitance old) a (length old) 0 (t.owner x)
                (λ e. absurd (omega (arith, few.above (t.owner x) u_0 u_n))) (λ e. absurd (omega arith)),
          ))
      | inr is ↦
          rw is
          (omega (
            arith,
            step,
            wire,
            through,
            ap (λ o. cell_delay o (load_at new b x)) (k.none x x_m is),
          ))
    ])
  where
    many : IsRooted (parent_of new) (length new)
    many = tree_of new d.new_tree

    few : IsRooted (parent_of old) (length old)
    few = tree_of old d.old_tree

    cell_0 : b 0 ≡ a 0
    cell_0 = ap b (sym d.root) ∙ k.same 0 d.old_tree.some_node

    load_0 : load_at new b 0 ≡ load_at old a 0
    load_0 = ap (load_at new b) (sym d.root) ∙ load_divided old new t a b d k 0 d.old_tree.some_node

    -- the wire so far, by where the parent stands
    chain : (x : ℕ) → 0 < x → x < length new
        → delay_at new b (parent_of new x)
        ≡ cond (is_old t (parent_of new x)) (delay_at old a (t.owner (parent_of new x)))
        (delay_at old a (parent_of old (t.owner (parent_of new x)))
        + t.so_far (parent_of new x) * input_load_at old a (t.owner (parent_of new x)))
        → delay_at new b (parent_of new x) + resistance new x * input_load_at old a (t.owner x)
        ≡ delay_at old a (parent_of old (t.owner x)) + t.so_far x * input_load_at old a (t.owner x)
    chain x x_0 x_m more =
        elim (cases_Bool (is_old t (parent_of new x))) [
          | inl is ↦
              let above : delay_at new b (parent_of new x) ≡ delay_at old a (t.owner (parent_of new x)) =
              rw is at more in
              omega (
                arith,
                above,
                ap (delay_at old a) (d.from_old x x_0 x_m is),
                ap (λ y. y * input_load_at old a (t.owner x)) (d.begins x x_0 x_m is),
              )
          | inr is ↦
              let above : delay_at new b (parent_of new x)
              ≡ delay_at old a (parent_of old (t.owner (parent_of new x)))
              + t.so_far (parent_of new x) * input_load_at old a (t.owner (parent_of new x)) =
              rw is at more in
              let same : t.owner (parent_of new x) ≡ t.owner x = d.from_new x x_0 x_m is in
              omega (
                arith,
                above,
                ap (λ u. delay_at old a (parent_of old u)) same,
                ap (λ u. t.so_far (parent_of new x) * input_load_at old a u) same,
                ap (λ y. y * input_load_at old a (t.owner x)) (d.adds x x_0 x_m is),
                both (t.so_far (parent_of new x)) (resistance new x) (input_load_at old a (t.owner x)),
              )
        ]
      where
        both : (p q u : ℕ) → (p + q) * u ≡ p * u + q * u
        both p q u = omega arith

pub inverters_divided : (old new : List Node) (t : Chains) (a b : ℕ → Option Rep) → IsDivided old new t
    → AreCells old new t a b
    → (x : ℕ) → x < length new
    → inverters_at new b x
    ≡ cond (is_old t x) (inverters_at old a (t.owner x)) (inverters_at old a (parent_of old (t.owner x)))
inverters_divided old new t a b d k =
    from_root (parent_of new) (length new) many
    (λ x. inverters_at new b x
    ≡ cond (is_old t x) (inverters_at old a (t.owner x)) (inverters_at old a (parent_of old (t.owner x))))
    (rw (old_root old new t d, root_owner old new t d)
    (inverters_self (parent_of new) many.falls b 0
    ∙ ap (λ (o : Option Rep). cond {A = ℕ} (is_inverter o) 1 0) (ap b (sym d.root) ∙ k.same 0 d.old_tree.some_node)
    ∙ sym (inverters_self (parent_of old) few.falls a 0)))
    (λ x x_0 x_m more.
    let edge : parent_of new x ≢ x = λ e. absurd (omega (arith, many.above x x_0 x_m)) in
    let step : inverters_at new b x ≡ inverters_at new b (parent_of new x) + step_inverters b x =
    inverters_below (parent_of new) many.falls b 0 x edge (λ e. absurd (omega arith)) in
    let above : inverters_at new b (parent_of new x) ≡ inverters_at old a (parent_of old (t.owner x)) =
    more ∙ at_parent old new t d (λ u. inverters_at old a u) x x_0 x_m in
    elim (cases_Bool (is_old t x)) [
      | inl is ↦
          let u_0 : 0 < t.owner x = owner_below old new t d x x_0 is in
          rw is
          (omega (
            arith,
            step,
            above,
            ap (λ (o : Option Rep). cond {A = ℕ} (is_inverter o) 1 0) (cell_old old new t a b d k x x_m is),
            inverters_below (parent_of old) few.falls a 0 (t.owner x)
                (λ e. absurd (omega (arith, few.above (t.owner x) u_0 (d.owners x x_m)))) (λ e. absurd (omega arith)),
          ))
      | inr is ↦
          rw is
          (omega (arith, step, above, ap (λ (o : Option Rep). cond {A = ℕ} (is_inverter o) 1 0) (k.none x x_m is)))
    ])
  where
    many : IsRooted (parent_of new) (length new)
    many = tree_of new d.new_tree

    few : IsRooted (parent_of old) (length old)
    few = tree_of old d.old_tree

pub cells_of : (old new : List Node) (t : Chains) (reps : List Rep) (cells more : List (Option ℕ))
    → AreSameCells old new t cells more
    → AreCells old new t (cell_at reps cells) (cell_at reps more)
cells_of old new t reps cells more s = record {
  same = λ u u_n. ap (rep_of reps) (s.same u u_n);
  none = λ x x_m is. ap (rep_of reps) (s.none x x_m is);
}

-- so each old node acts as it did
pub acts_alike : (old new : List Node) (t : Chains) (reps : List Rep) (cells more : List (Option ℕ))
    → IsDivided old new t → AreSameCells old new t cells more → (u : ℕ) → u < length old
    → ActsAlike old new t reps cells more u
acts_alike old new t reps cells more d s u u_n =
    let k : AreCells old new t (cell_at reps cells) (cell_at reps more) = cells_of old new t reps cells more s in
    record {
      load = load_divided old new t (cell_at reps cells) (cell_at reps more) d k u u_n;
      input_load = input_load_old old new t (cell_at reps cells) (cell_at reps more) d k u u_n;
      delay =
          delay_divided old new t (cell_at reps cells) (cell_at reps more) d k (t.at u) (d.within u u_n)
          ∙ rw (old_at old new t d u u_n, d.owned u u_n) refl;
      inverters =
          inverters_divided old new t (cell_at reps cells) (cell_at reps more) d k (t.at u) (d.within u u_n)
          ∙ rw (old_at old new t d u u_n, d.owned u u_n) refl;
    }

pub keeps_wire_delays : (old new : List Node) (t : Chains) → IsDivided old new t → (u : ℕ) → u < length old
    → delay_in new (t.at u) ≡ delay_in old u
keeps_wire_delays old new t d u u_n =
    sym (bare_delay (parent_of new) (resistance new) (capacitance new) (λ _. None) (λ _. refl) (length new) (t.at u))
    ∙ delay_divided old new t (λ _. None) (λ _. None) d (record { same = λ v v_n. refl; none = λ x x_m is. refl })
    (t.at u) (d.within u u_n)
    ∙ rw (old_at old new t d u u_n, d.owned u u_n)
    (bare_delay (parent_of old) (resistance old) (capacitance old) (λ _. None) (λ _. refl) (length old) u)
