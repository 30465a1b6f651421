-- Loads and delays with widths.
use Rattle.std.proofs.Common.{◌≡◌, ◌≢◌, ℕ, ◌+◌, ◌*◌, ◌<◌, Bool, true, false, not, ◌&&◌, ◌||◌, List, drop, refl, sym, ap, ◌∙◌, eqb, cond, arith, inl, inr, Option, None, Some, length, is_some}
use Rattle.std.proofs.lemmas.Bool.{eq-eqb, ne_eqb, cases_eq, cases_lt, cases_Bool, false≢true}
use Rattle.std.proofs.lemmas.List.Sums.{sum_by_push}
use Rattle.std.specs.List.{sum_by, filter, list_all}
use Rattle.elmore.specs.Path.{Falls, is_over, way, nodes, is_child}
use Rattle.elmore.specs.Cells.{has_cell, input_capacitance, cell_delay}
use Rattle.elmore.specs.Stage.{in_stage, ends_stage, load, input_load, seen}
use Rattle.elmore.specs.Delay.{delay_from}
use Rattle.elmore.specs.Trees.{IsTree, parent_of, capacitance}
use Rattle.elmore.specs.declared.tree.Node.{Node}
use Rattle.elmore.specs.declared.rep.Rep.{Rep}
use Rattle.elmore.proofs.PathLemmas.{over_self, over_le, over_trans, below_other}
use Rattle.elmore.proofs.RootLemmas.{IsRooted}
use Rattle.elmore.proofs.StageLemmas.{stage_self, end_self, end_below}
use Rattle.elmore.proofs.SumLemmas.{sum_of_filter, sum_of_both, sum_of_same, sum_of_alike, sum_of_none, sum_at}
use Rattle.elmore.proofs.HungLoadLemmas.{load_parts, stage_part, ends_part}
use Rattle.elmore.proofs.PlacedDelayLemmas.{step_delay, delay_parts}
use Rattle.elmore.proofs.WayLemmas.{way_sum_self, way_sum_through, way_sum_alike}
use Rattle.elmore.proofs.TreeLemmas.{tree_of}
use Rattle.elmore.specs.Wire.{downstream}
use Rattle.elmore.proofs.WireLemmas.{bare_load}
use Rattle.elmore.proofs.ChildLoadLemmas.{load_children}
use Rattle.elmore.proofs.LocalLemmas.{Agree, stage_local, load_local, stage_outside, end_outside}
use Rattle.elmore.proofs.StageThroughLemmas.{IsInner, stage_inner, end_inner, end_other}
use Rattle.wire_widths.specs.Widths.{is_charged_wire, wide_load, wide_input_load, wide_delay, with_input, wide_cell, added_open, wide_capacitance, IsElmoreOf}

-- a node of a stage does not end it
stage_no_end : (parent : ℕ → ℕ) (cell : ℕ → Option Rep) → Falls parent → (v w : ℕ) → in_stage parent cell v w ≡ true → ends_stage parent cell v w ≡ false
stage_no_end parent cell falls v w inside =
    elim (cases_Bool (ends_stage parent cell v w)) [
      | inl ends ↦
          let i : IsInner parent cell v w true = end_inner parent cell falls v w ends in
          let k : IsInner parent cell v w false = stage_inner parent cell falls v w inside (end_other parent cell falls v w ends) in
          absurd (false≢true (sym k.here ∙ i.here))
      | inr other ↦ other
    ]

has_same : (a : ℕ → ℕ) (cell : ℕ → Option Rep) (u : ℕ) → has_cell (wide_cell a cell) u ≡ has_cell cell u
has_same a cell u = go (cell u)
  where
    go : (o : Option Rep) → is_some (with_input (a u) o) ≡ is_some o
    go None = refl
    go (Some rep) = refl

pub stage_wide : (parent a : ℕ → ℕ) (cell : ℕ → Option Rep) (v w : ℕ) → in_stage parent (wide_cell a cell) v w ≡ in_stage parent cell v w
unfolding in_stage
stage_wide parent a cell v w = λ i. is_over parent v w && list_all (λ u. not (has_same a cell u i)) (way parent v w)

pub end_wide : (parent a : ℕ → ℕ) (cell : ℕ → Option Rep) (v w : ℕ) → ends_stage parent (wide_cell a cell) v w ≡ ends_stage parent cell v w
unfolding ends_stage
end_wide parent a cell v w = λ i.
    is_over parent v w && not (eqb w v) && has_same a cell w i && list_all (λ u. not (has_same a cell u i)) (drop 1 (way parent v w))

-- what one node adds
part : (o : Option Rep) (s e q : Bool) (c a : ℕ) → (q ≡ true → (s ≡ true) × (e ≡ false)) → (q ≡ false → s ≡ true → (is_some o ≡ false) × (e ≡ false))
    → (e ≡ true → is_some o ≡ true)
    → cond s (c + cond (is_some o) 0 a) 0 + cond e (input_capacitance (with_input a o)) 0
    ≡ (cond s c 0 + cond e (input_capacitance o) 0) + (cond (not q && (s || e)) a 0 + cond q (cond (is_some o) 0 a) 0)
part o true true true c a here inner ends = absurd (false≢true (sym (here refl).1))
part o true true false c a here inner ends = absurd (false≢true (sym (inner refl refl).1))
part o false e true c a here inner ends = absurd (false≢true (here refl).0)
part o true false true c a here inner ends = omega arith
part None true false false c a here inner ends = omega arith
part (Some rep) true false false c a here inner ends = absurd (false≢true (sym (inner refl refl).0))
part None false true false c a here inner ends = absurd (false≢true (ends refl))
part (Some rep) false true false c a here inner ends = omega arith
part o false false false c a here inner ends = omega arith

pub loads_wide : (parent c a : ℕ → ℕ) (cell : ℕ → Option Rep) → Falls parent → (n v : ℕ) → v < n
    → load parent (wide_capacitance c a cell) (wide_cell a cell) n v ≡ wide_load parent c a cell n v + added_open a cell v
unfolding stage_part ends_part wide_load
loads_wide parent c a cell falls n v v_n =
    omega (
      arith,
      load_parts parent (wide_capacitance c a cell) (wide_cell a cell) n v,
      load_parts parent c cell n v,
      sum_of_filter a (is_charged_wire parent cell v) (nodes n),
      sum_of_both (λ w. cond (in_stage parent (wide_cell a cell) v w) (wide_capacitance c a cell w) 0) (λ w. cond (ends_stage parent (wide_cell a cell) v w) (input_capacitance (wide_cell a cell w)) 0) (nodes n),
      sum_of_same
          (λ w. cond (in_stage parent (wide_cell a cell) v w) (wide_capacitance c a cell w) 0 + cond (ends_stage parent (wide_cell a cell) v w) (input_capacitance (wide_cell a cell w)) 0)
          (λ w. (cond (in_stage parent cell v w) (c w) 0 + cond (ends_stage parent cell v w) (input_capacitance (cell w)) 0)
          + (cond (is_charged_wire parent cell v w) (a w) 0 + cond (eqb w v) (added_open a cell w) 0))
          (nodes n) each,
      sum_of_both
          (λ w. cond (in_stage parent cell v w) (c w) 0 + cond (ends_stage parent cell v w) (input_capacitance (cell w)) 0)
          (λ w. cond (is_charged_wire parent cell v w) (a w) 0 + cond (eqb w v) (added_open a cell w) 0) (nodes n),
      sum_of_both (λ w. cond (in_stage parent cell v w) (c w) 0) (λ w. cond (ends_stage parent cell v w) (input_capacitance (cell w)) 0) (nodes n),
      sum_of_both (λ w. cond (is_charged_wire parent cell v w) (a w) 0) (λ w. cond (eqb w v) (added_open a cell w) 0) (nodes n),
      sum_at (added_open a cell) v 0 n (omega arith) (omega arith),
    )
  where
    each : (w : ℕ)
        → cond (in_stage parent (wide_cell a cell) v w) (wide_capacitance c a cell w) 0 + cond (ends_stage parent (wide_cell a cell) v w) (input_capacitance (wide_cell a cell w)) 0
        ≡ (cond (in_stage parent cell v w) (c w) 0 + cond (ends_stage parent cell v w) (input_capacitance (cell w)) 0)
        + (cond (is_charged_wire parent cell v w) (a w) 0 + cond (eqb w v) (added_open a cell w) 0)
    each w =
        ap (λ s. cond s (wide_capacitance c a cell w) 0 + cond (ends_stage parent (wide_cell a cell) v w) (input_capacitance (wide_cell a cell w)) 0) (stage_wide parent a cell v w)
        ∙ ap (λ e. cond (in_stage parent cell v w) (wide_capacitance c a cell w) 0 + cond e (input_capacitance (wide_cell a cell w)) 0) (end_wide parent a cell v w)
        ∙ elim (cases_eq w v) [
          | inl e ↦
              part (cell w) (in_stage parent cell v w) (ends_stage parent cell v w) (eqb w v) (c w) (a w)
              (λ _. (ap (in_stage parent cell v) e ∙ stage_self parent cell falls v, ap (ends_stage parent cell v) e ∙ end_self parent cell falls v))
              (λ no. absurd (false≢true (sym no ∙ eq-eqb w v e)))
              (λ ends. (end_inner parent cell falls v w ends).here)
          | inr ne ↦
              part (cell w) (in_stage parent cell v w) (ends_stage parent cell v w) (eqb w v) (c w) (a w)
              (λ yes. absurd (false≢true (sym (ne_eqb w v ne) ∙ yes)))
              (λ _ inside. ((stage_inner parent cell falls v w inside ne).here, stage_no_end parent cell falls v w inside))
              (λ ends. (end_inner parent cell falls v w ends).here)
        ]

seen_wide : (o : Option Rep) (l a x : ℕ) → x ≡ l + cond (is_some o) 0 a → seen (with_input a o) x ≡ seen o l + a
seen_wide None l a x e = e
seen_wide (Some rep) l a x e = refl

pub input_loads_wide : (parent c a : ℕ → ℕ) (cell : ℕ → Option Rep) → Falls parent → (n v : ℕ) → v < n
    → input_load parent (wide_capacitance c a cell) (wide_cell a cell) n v ≡ wide_input_load parent c a cell n v + a v
unfolding input_load
input_loads_wide parent c a cell falls n v v_n =
    seen_wide (cell v) (wide_load parent c a cell n v) (a v) (load parent (wide_capacitance c a cell) (wide_cell a cell) n v) (loads_wide parent c a cell falls n v v_n)

delay_same : (o : Option Rep) (l a x : ℕ) → x ≡ l + cond (is_some o) 0 a → cell_delay (with_input a o) x ≡ cell_delay o l
delay_same None l a x e = refl
delay_same (Some rep) l a x e = ap (λ y. rep.k + rep.r * y) (omega (arith, e))

pub cells_wide : (parent c a : ℕ → ℕ) (cell : ℕ → Option Rep) → Falls parent → (n v : ℕ) → v < n
    → cell_delay (wide_cell a cell v) (load parent (wide_capacitance c a cell) (wide_cell a cell) n v) ≡ cell_delay (cell v) (wide_load parent c a cell n v)
cells_wide parent c a cell falls n v v_n =
    delay_same (cell v) (wide_load parent c a cell n v) (a v) (load parent (wide_capacitance c a cell) (wide_cell a cell) n v) (loads_wide parent c a cell falls n v v_n)

-- what a node adds to delays
abbrev pub wide_step : (ℕ → ℕ) → (ℕ → ℕ) → (ℕ → ℕ) → (ℕ → ℕ) → (ℕ → Option Rep) → ℕ → ℕ → ℕ
wide_step parent r a c cell n u = r u * (wide_input_load parent c a cell n u + a u) + cell_delay (cell u) (wide_load parent c a cell n u)

pub wide_parts : (parent r a c : ℕ → ℕ) (cell : ℕ → Option Rep) (n v w : ℕ)
    → wide_delay parent r a c cell n v w ≡ sum_by (wide_step parent r a c cell n) (way parent v w) + cell_delay (cell v) (wide_load parent c a cell n v)
unfolding wide_delay
wide_parts parent r a c cell n v w =
    omega (
      arith,
      sum_of_both (λ (u : ℕ). r u * (wide_input_load parent c a cell n u + a u)) (λ (u : ℕ). cell_delay (cell u) (wide_load parent c a cell n u)) (way parent v w),
      sum_by_push (λ (u : ℕ). cell_delay (cell u) (wide_load parent c a cell n u)) (way parent v w) v,
    )

-- a node strictly below another one is a node of the tree
pub below_inside : (parent : ℕ → ℕ) (n : ℕ) → IsRooted parent n → (v u : ℕ) → is_over parent v u ≡ true → u ≢ v → u < n
below_inside parent n t v u over u_v =
    elim (cases_lt u n) [
      | inl low ↦ low
      | inr high ↦ absurd (below_other parent t.falls v u over u_v (t.past u high))
    ]

pub delays_wide : (parent r a c : ℕ → ℕ) (cell : ℕ → Option Rep) (n : ℕ) → IsRooted parent n → (v w : ℕ) → v < n → is_over parent v w ≡ true
    → delay_from parent r (wide_capacitance c a cell) (wide_cell a cell) n v w ≡ wide_delay parent r a c cell n v w
delays_wide parent r a c cell n t v w v_n over =
    omega (
      arith,
      delay_parts parent r (wide_capacitance c a cell) (wide_cell a cell) n v w,
      wide_parts parent r a c cell n v w,
      cells_wide parent c a cell t.falls n v v_n,
      way_sum_alike parent t.falls v (step_delay parent r (wide_capacitance c a cell) (wide_cell a cell) n) (wide_step parent r a c cell n)
          (λ u under u_v.
          let u_n : u < n = below_inside parent n t v u under u_v in
          omega (arith, ap (λ k. r u * k) (input_loads_wide parent c a cell t.falls n u u_n), cells_wide parent c a cell t.falls n u u_n)) w over,
    )

pub are_elmore : (tree : List Node) (r a : ℕ → ℕ) (cell : ℕ → Option Rep) → IsTree tree → IsElmoreOf (parent_of tree) r a (capacitance tree) cell (length tree)
are_elmore tree r a cell t = record {
  loads = λ v v_n. loads_wide (parent_of tree) (capacitance tree) a cell (tree_of tree t).falls (length tree) v v_n;
  input_loads = λ v v_n. input_loads_wide (parent_of tree) (capacitance tree) a cell (tree_of tree t).falls (length tree) v v_n;
  delays = λ v w v_n over. delays_wide (parent_of tree) r a (capacitance tree) cell (length tree) (tree_of tree t) v w v_n over;
}

-- BY CHILDREN: a load is the node's capacitance and what its children, with what their wires add, are seen as
pub wide_children : (parent : ℕ → ℕ) (n : ℕ) → IsRooted parent n → (c a : ℕ → ℕ) (cell : ℕ → Option Rep) (v : ℕ) → v < n
    → wide_load parent c a cell n v ≡ c v + sum_by (λ u. wide_input_load parent c a cell n u + a u) (filter (is_child parent v) (nodes n))
wide_children parent n t c a cell v v_n =
    omega (
      arith,
      loads_wide parent c a cell t.falls n v v_n,
      load_children parent n t (wide_capacitance c a cell) (wide_cell a cell) v v_n,
      sum_of_filter (input_load parent (wide_capacitance c a cell) (wide_cell a cell) n) (is_child parent v) (nodes n),
      sum_of_filter (λ u. wide_input_load parent c a cell n u + a u) (is_child parent v) (nodes n),
      sum_of_alike
          (λ u. cond (is_child parent v u) (input_load parent (wide_capacitance c a cell) (wide_cell a cell) n u) 0)
          (λ u. cond (is_child parent v u) (wide_input_load parent c a cell n u + a u) 0) n
          (λ u u_n. ap (λ y. cond (is_child parent v u) y 0) (input_loads_wide parent c a cell t.falls n u u_n)),
    )

pub wide_self : (parent r a c : ℕ → ℕ) (cell : ℕ → Option Rep) → Falls parent → (n v : ℕ)
    → wide_delay parent r a c cell n v v ≡ cell_delay (cell v) (wide_load parent c a cell n v)
wide_self parent r a c cell falls n v = omega (arith, wide_parts parent r a c cell n v v, way_sum_self parent falls (wide_step parent r a c cell n) v)

-- by way of a node between
pub wide_through : (parent r a c : ℕ → ℕ) (cell : ℕ → Option Rep) → Falls parent → (n v u w : ℕ) → is_over parent v u ≡ true → is_over parent u w ≡ true
    → wide_delay parent r a c cell n v w + cell_delay (cell u) (wide_load parent c a cell n u)
    ≡ wide_delay parent r a c cell n v u + wide_delay parent r a c cell n u w
wide_through parent r a c cell falls n v u w v_u u_w =
    omega (
      arith,
      wide_parts parent r a c cell n v w,
      wide_parts parent r a c cell n v u,
      wide_parts parent r a c cell n u w,
      way_sum_through parent falls (wide_step parent r a c cell n) v u w v_u u_w,
    )

-- LOCALITY: what stands at v and below it decides, but for the wire of v
pub record AgreeWide (parent : ℕ → ℕ) (v : ℕ) (r s a b : ℕ → ℕ) (these those : ℕ → Option Rep) : Type 0 where
  pub cells : (u : ℕ) → is_over parent v u ≡ true → these u ≡ those u
  pub wires : (u : ℕ) → is_over parent v u ≡ true → u ≢ v → r u ≡ s u
  pub added : (u : ℕ) → is_over parent v u ≡ true → u ≢ v → a u ≡ b u

pub agree_under : (parent : ℕ → ℕ) → Falls parent → (v u : ℕ) (r s a b : ℕ → ℕ) (these those : ℕ → Option Rep) → is_over parent v u ≡ true
    → AgreeWide parent v r s a b these those → AgreeWide parent u r s a b these those
agree_under parent falls v u r s a b these those v_u g = record {
  cells = λ w u_w. g.cells w (over_trans parent falls v u w v_u u_w);
  wires = λ w u_w w_u. g.wires w (over_trans parent falls v u w v_u u_w) (λ e. w_u (omega (arith, e, over_le parent falls v u v_u, over_le parent falls u w u_w)));
  added = λ w u_w w_u. g.added w (over_trans parent falls v u w v_u u_w) (λ e. w_u (omega (arith, e, over_le parent falls v u v_u, over_le parent falls u w u_w)));
}

end_alike : (parent : ℕ → ℕ) → Falls parent → (v : ℕ) (these those : ℕ → Option Rep) → Agree parent v these those → (w : ℕ)
    → ends_stage parent these v w ≡ ends_stage parent those v w
end_alike parent falls v these those agree w =
    elim (cases_Bool (is_over parent v w)) [
      | inr out ↦ end_outside parent these v w out ∙ sym (end_outside parent those v w out)
      | inl under ↦ elim (cases_eq w v) [
        | inl e ↦ ap (ends_stage parent these v) e ∙ end_self parent these falls v ∙ sym (ap (ends_stage parent those v) e ∙ end_self parent those falls v)
        | inr w_v ↦
            let edge : parent w ≢ w = below_other parent falls v w under w_v in
            end_below parent these falls v w edge w_v
            ∙ ap (λ (o : Option Rep). cond (is_some o) (in_stage parent these v (parent w)) false) (agree.at w under w_v)
            ∙ ap (λ y. cond (has_cell those w) y false) (stage_local parent falls v these those agree (parent w))
            ∙ sym (end_below parent those falls v w edge w_v)
      ]
    ]

pub wide_near : (parent r s a b c : ℕ → ℕ) (these those : ℕ → Option Rep) → Falls parent → (n v : ℕ) → AgreeWide parent v r s a b these those
    → wide_load parent c a these n v ≡ wide_load parent c b those n v
unfolding wide_load
wide_near parent r s a b c these those falls n v g =
    omega (
      arith,
      load_local parent falls v these those agree c n,
      sum_of_filter a (is_charged_wire parent these v) (nodes n),
      sum_of_filter b (is_charged_wire parent those v) (nodes n),
      sum_of_same (λ w. cond (is_charged_wire parent these v w) (a w) 0) (λ w. cond (is_charged_wire parent those v w) (b w) 0) (nodes n) each,
    )
  where
    agree : Agree parent v these those
    agree = record { at = λ u over _. g.cells u over }

    none : (q : Bool) (x y : ℕ) → cond (not q && (false || false)) x 0 ≡ cond (not q && (false || false)) y 0
    none true x y = refl
    none false x y = refl

    each : (w : ℕ) → cond (is_charged_wire parent these v w) (a w) 0 ≡ cond (is_charged_wire parent those v w) (b w) 0
    each w =
        elim (cases_Bool (is_over parent v w)) [
          | inr out ↦
              rw (stage_outside parent these v w out, end_outside parent these v w out, stage_outside parent those v w out, end_outside parent those v w out) (none (eqb w v) (a w) (b w))
          | inl under ↦ elim (cases_eq w v) [
            | inl e ↦ rw (eq-eqb w v e) refl
            | inr w_v ↦
                ap (λ y. cond (is_charged_wire parent these v w) y 0) (g.added w under w_v)
                ∙ ap (λ y. cond (not (eqb w v) && (y || ends_stage parent these v w)) (b w) 0) (stage_local parent falls v these those agree w)
                ∙ ap (λ y. cond (not (eqb w v) && (in_stage parent those v w || y)) (b w) 0) (end_alike parent falls v these those agree w)
          ]
        ]

pub wide_input_load_near : (parent r s a b c : ℕ → ℕ) (these those : ℕ → Option Rep) → Falls parent → (n v : ℕ) → AgreeWide parent v r s a b these those
    → wide_input_load parent c a these n v ≡ wide_input_load parent c b those n v
wide_input_load_near parent r s a b c these those falls n v g =
    ap (λ o. seen o (wide_load parent c a these n v)) (g.cells v (over_self parent falls v)) ∙ ap (seen (those v)) (wide_near parent r s a b c these those falls n v g)

own_near : (parent r s a b c : ℕ → ℕ) (these those : ℕ → Option Rep) → Falls parent → (n v : ℕ) → AgreeWide parent v r s a b these those
    → cell_delay (these v) (wide_load parent c a these n v) ≡ cell_delay (those v) (wide_load parent c b those n v)
own_near parent r s a b c these those falls n v g =
    ap (λ o. cell_delay o (wide_load parent c a these n v)) (g.cells v (over_self parent falls v)) ∙ ap (cell_delay (those v)) (wide_near parent r s a b c these those falls n v g)

pub wide_delay_near : (parent r s a b c : ℕ → ℕ) (these those : ℕ → Option Rep) → Falls parent → (n v w : ℕ) → AgreeWide parent v r s a b these those
    → is_over parent v w ≡ true → wide_delay parent r a c these n v w ≡ wide_delay parent s b c those n v w
wide_delay_near parent r s a b c these those falls n v w g over =
    omega (
      arith,
      wide_parts parent r a c these n v w,
      wide_parts parent s b c those n v w,
      own_near parent r s a b c these those falls n v g,
      way_sum_alike parent falls v (wide_step parent r a c these n) (wide_step parent s b c those n)
          (λ u under u_v.
          let h : AgreeWide parent u r s a b these those = agree_under parent falls v u r s a b these those under g in
          omega (
            arith,
            ap (λ k. k * (wide_input_load parent c a these n u + a u)) (g.wires u under u_v),
            ap (λ k. s u * (k + a u)) (wide_input_load_near parent r s a b c these those falls n u h),
            ap (λ k. s u * (wide_input_load parent c b those n u + k)) (g.added u under u_v),
            own_near parent r s a b c these those falls n u h,
          )) w over,
    )

-- without cells and widths the load is what is below
pub wide_bare : (parent c : ℕ → ℕ) (n v : ℕ) → wide_input_load parent c (λ _. 0) (λ _. None) n v ≡ downstream parent c n v
unfolding wide_load
wide_bare parent c n v =
    omega (
      arith,
      bare_load parent c (λ _. None) (λ _. refl) n v,
      sum_of_none (filter (is_charged_wire parent (λ _. None) v) (nodes n)),
    )
