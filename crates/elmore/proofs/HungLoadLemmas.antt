-- Stages and loads of a forest with one more edge.
use Rattle.std.proofs.Common.{◌≡◌, ℕ, ◌+◌, ◌<◌, ◌≢◌, Bool, true, false, List, refl, sym, ap, ◌∙◌, eqb, cond, arith, Option, None, Some, is_some}
use Rattle.std.proofs.lemmas.Bool.{eq-eqb, ne_eqb}
use Rattle.std.specs.List.{sum_by}
use Rattle.elmore.specs.Path.{nodes}
use Rattle.elmore.specs.Cells.{has_cell, input_capacitance}
use Rattle.elmore.specs.Stage.{in_stage, ends_stage, load, input_load, seen}
use Rattle.elmore.specs.declared.rep.Rep.{Rep}
use Rattle.elmore.proofs.StageLemmas.{stage_self, stage_at_root, stage_below, end_self, end_at_root, end_below}
use Rattle.elmore.proofs.SumLemmas.{sum_of_filter, sum_of_both, sum_of_same, sum_at, sum_of_none}
use Rattle.elmore.proofs.HangLemmas.{Hung, along, after_root}

-- a stage that does not begin at p stays
pub stage_other : (before after : ℕ → ℕ) (i p : ℕ) → Hung before after i p → (cell : ℕ → Option Rep) (v : ℕ) → v ≢ p
    → (w : ℕ) → in_stage after cell v w ≡ in_stage before cell v w
stage_other before after i p h cell v v_p w =
    along before after i p h (λ u. in_stage after cell v u ≡ in_stage before cell v u) v
    (stage_self after cell h.falls_after v ∙ sym (stage_self before cell h.falls v))
    (λ i_v.
    let a : in_stage after cell v i ≡ cond (has_cell cell i) false (in_stage after cell v (after i)) = stage_below after cell h.falls_after v i (λ e. h.apart (sym e ∙ h.edge)) i_v in
    let b : in_stage after cell v p ≡ false = stage_at_root after cell h.falls_after v p (h.others p (λ e. h.apart (sym e)) ∙ h.root_above) (λ e. v_p (sym e)) in
    let c : in_stage before cell v i ≡ false = stage_at_root before cell h.falls v i h.root i_v in
    a ∙ ap (λ (u : ℕ). cond (has_cell cell i) false (in_stage after cell v u)) h.edge ∙ ap (cond (has_cell cell i) false) b ∙ never (has_cell cell i) ∙ sym c)
    (λ u u_v u_i a b. stage_at_root after cell h.falls_after v u a u_v ∙ sym (stage_at_root before cell h.falls v u b u_v))
    (λ u u_v u_i a b e more. cc (stage_below after cell h.falls_after v u a u_v, stage_below before cell h.falls v u b u_v, e, more))
    w
  where
    never : (b : Bool) → cond b false false ≡ false
    never true = refl
    never false = refl

-- where everything is false
nothing : (hi x y z : Bool) (c : ℕ) → x ≡ false → y ≡ false → z ≡ false → cond x c 0 ≡ cond y c 0 + cond hi 0 (cond z c 0)
nothing hi x y z c ex ey ez = rw (ex, ey, ez) (elim hi as (λ b. 0 ≡ 0 + cond b 0 0) [ true ↦ refl | false ↦ refl ])

step : (hi hw x y z : Bool) (c : ℕ) → cond x c 0 ≡ cond y c 0 + cond hi 0 (cond z c 0)
    → cond (cond hw false x) c 0 ≡ cond (cond hw false y) c 0 + cond hi 0 (cond (cond hw false z) c 0)
step true true x y z c e = refl
step false true x y z c e = refl
step hi false x y z c e = e

-- the stage of p takes in the stage of i, unless i has a cell
pub stage_hung : (before after : ℕ → ℕ) (i p : ℕ) → Hung before after i p → (cell : ℕ → Option Rep) (c w : ℕ)
    → cond (in_stage after cell p w) c 0 ≡ cond (in_stage before cell p w) c 0 + cond (has_cell cell i) 0 (cond (in_stage before cell i w) c 0)
stage_hung before after i p h cell c w =
    along before after i p h
    (λ u. cond (in_stage after cell p u) c 0 ≡ cond (in_stage before cell p u) c 0 + cond (has_cell cell i) 0 (cond (in_stage before cell i u) c 0))
    p
    (at_p (has_cell cell i) (in_stage after cell p p) (in_stage before cell p p) (in_stage before cell i p)
    (stage_self after cell h.falls_after p) (stage_self before cell h.falls p)
    (stage_at_root before cell h.falls i p h.root_above (λ e. h.apart (sym e))))
    (λ i_p.
    at_i (has_cell cell i) (in_stage after cell p i) (in_stage before cell p i) (in_stage before cell i i)
    (stage_below after cell h.falls_after p i (λ e. h.apart (sym e ∙ h.edge)) i_p
    ∙ ap (λ (u : ℕ). cond (has_cell cell i) false (in_stage after cell p u)) h.edge
    ∙ ap (cond (has_cell cell i) false) (stage_self after cell h.falls_after p))
    (stage_at_root before cell h.falls p i h.root i_p)
    (stage_self before cell h.falls i))
    (λ u u_p u_i a b.
    nothing (has_cell cell i) (in_stage after cell p u) (in_stage before cell p u) (in_stage before cell i u) c
    (stage_at_root after cell h.falls_after p u a u_p) (stage_at_root before cell h.falls p u b u_p)
    (stage_at_root before cell h.falls i u b u_i))
    (λ u u_p u_i a b e more.
    rw
    (stage_below after cell h.falls_after p u a u_p, stage_below before cell h.falls p u b u_p, stage_below before cell h.falls i u b u_i, e)
    (step (has_cell cell i) (has_cell cell u) (in_stage after cell p (before u)) (in_stage before cell p (before u)) (in_stage before cell i (before u)) c more))
    w
  where
    at_p : (hi x y z : Bool) → x ≡ true → y ≡ true → z ≡ false → cond x c 0 ≡ cond y c 0 + cond hi 0 (cond z c 0)
    at_p hi x y z ex ey ez = rw (ex, ey, ez) (elim hi as (λ b. c ≡ c + cond b 0 0) [ true ↦ omega arith | false ↦ omega arith ])

    at_i : (hi x y z : Bool) → x ≡ cond hi false true → y ≡ false → z ≡ true → cond x c 0 ≡ cond y c 0 + cond hi 0 (cond z c 0)
    at_i hi x y z ex ey ez = rw (ex, ey, ez) (elim hi as (λ b. cond (cond b false true) c 0 ≡ 0 + cond b 0 c) [ true ↦ omega arith | false ↦ omega arith ])

-- an end stays
pub end_other : (before after : ℕ → ℕ) (i p : ℕ) → Hung before after i p → (cell : ℕ → Option Rep) (v : ℕ) → v ≢ p
    → (w : ℕ) → ends_stage after cell v w ≡ ends_stage before cell v w
end_other before after i p h cell v v_p w =
    along before after i p h (λ u. ends_stage after cell v u ≡ ends_stage before cell v u) v
    (end_self after cell h.falls_after v ∙ sym (end_self before cell h.falls v))
    (λ i_v.
    let a : ends_stage after cell v i ≡ cond (has_cell cell i) (in_stage after cell v (after i)) false = end_below after cell h.falls_after v i (λ e. h.apart (sym e ∙ h.edge)) i_v in
    let b : in_stage after cell v p ≡ false = stage_at_root after cell h.falls_after v p (after_root before after i p h) (λ e. v_p (sym e)) in
    let c : ends_stage before cell v i ≡ false = end_at_root before cell h.falls v i h.root i_v in
    a ∙ ap (λ (u : ℕ). cond (has_cell cell i) (in_stage after cell v u) false) h.edge ∙ ap (λ (t : Bool). cond (has_cell cell i) t false) b ∙ never (has_cell cell i) ∙ sym c)
    (λ u u_v u_i a b. end_at_root after cell h.falls_after v u a u_v ∙ sym (end_at_root before cell h.falls v u b u_v))
    (λ u u_v u_i a b e more. cc (end_below after cell h.falls_after v u a u_v, end_below before cell h.falls v u b u_v, e, stage_other before after i p h cell v v_p (before u)))
    w
  where
    never : (b : Bool) → cond b false false ≡ false
    never true = refl
    never false = refl

-- a cell at i ends the stage of p; without one, what ends the stage of i does
pub end_hung : (before after : ℕ → ℕ) (i p : ℕ) → Hung before after i p → (cell : ℕ → Option Rep) (c w : ℕ)
    → cond (ends_stage after cell p w) c 0
    ≡ cond (ends_stage before cell p w) c 0 + cond (has_cell cell i) (cond (eqb w i) c 0) (cond (ends_stage before cell i w) c 0)
end_hung before after i p h cell c w =
    along before after i p h
    (λ u. cond (ends_stage after cell p u) c 0
    ≡ cond (ends_stage before cell p u) c 0 + cond (has_cell cell i) (cond (eqb u i) c 0) (cond (ends_stage before cell i u) c 0))
    p
    (none (has_cell cell i) (ends_stage after cell p p) (ends_stage before cell p p) (ends_stage before cell i p) (eqb p i)
    (end_self after cell h.falls_after p) (end_self before cell h.falls p)
    (end_at_root before cell h.falls i p h.root_above (λ e. h.apart (sym e)))
    (ne_eqb p i (λ e. h.apart (sym e))))
    (λ i_p.
    at_i (has_cell cell i) (ends_stage after cell p i) (ends_stage before cell p i) (ends_stage before cell i i) (eqb i i)
    (end_below after cell h.falls_after p i (λ e. h.apart (sym e ∙ h.edge)) i_p
    ∙ ap (λ (u : ℕ). cond (has_cell cell i) (in_stage after cell p u) false) h.edge
    ∙ ap (λ (t : Bool). cond (has_cell cell i) t false) (stage_self after cell h.falls_after p))
    (end_at_root before cell h.falls p i h.root i_p)
    (end_self before cell h.falls i)
    (eq-eqb i i refl))
    (λ u u_p u_i a b.
    none (has_cell cell i) (ends_stage after cell p u) (ends_stage before cell p u) (ends_stage before cell i u) (eqb u i)
    (end_at_root after cell h.falls_after p u a u_p) (end_at_root before cell h.falls p u b u_p)
    (end_at_root before cell h.falls i u b u_i) (ne_eqb u i u_i))
    (λ u u_p u_i a b e more.
    rw
    (end_below after cell h.falls_after p u a u_p, end_below before cell h.falls p u b u_p, end_below before cell h.falls i u b u_i, e, ne_eqb u i u_i)
    (onward (has_cell cell i) (has_cell cell u) (in_stage after cell p (before u)) (in_stage before cell p (before u)) (in_stage before cell i (before u))
    (stage_hung before after i p h cell c (before u))))
    w
  where
    none : (hi x y z e : Bool) → x ≡ false → y ≡ false → z ≡ false → e ≡ false → cond x c 0 ≡ cond y c 0 + cond hi (cond e c 0) (cond z c 0)
    none hi x y z e ex ey ez ee = rw (ex, ey, ez, ee) (elim hi as (λ b. 0 ≡ 0 + cond b 0 0) [ true ↦ refl | false ↦ refl ])

    at_i : (hi x y z e : Bool) → x ≡ cond hi true false → y ≡ false → z ≡ false → e ≡ true → cond x c 0 ≡ cond y c 0 + cond hi (cond e c 0) (cond z c 0)
    at_i hi x y z e ex ey ez ee = rw (ex, ey, ez, ee) (elim hi as (λ b. cond (cond b true false) c 0 ≡ 0 + cond b c 0) [ true ↦ omega arith | false ↦ omega arith ])

    onward : (hi hw x y z : Bool) → cond x c 0 ≡ cond y c 0 + cond hi 0 (cond z c 0)
        → cond (cond hw x false) c 0 ≡ cond (cond hw y false) c 0 + cond hi 0 (cond (cond hw z false) c 0)
    onward hi true x y z e = e
    onward true false x y z e = refl
    onward false false x y z e = refl

-- what the nodes of the stage add to the load, and what its ends add
unfoldable pub stage_part : (ℕ → ℕ) → (ℕ → ℕ) → (ℕ → Option Rep) → ℕ → ℕ → ℕ
stage_part parent c cell n v = sum_by (λ w. cond (in_stage parent cell v w) (c w) 0) (nodes n)

unfoldable pub ends_part : (ℕ → ℕ) → (ℕ → Option Rep) → ℕ → ℕ → ℕ
ends_part parent cell n v = sum_by (λ w. cond (ends_stage parent cell v w) (input_capacitance (cell w)) 0) (nodes n)

pub load_parts : (parent : ℕ → ℕ) (c : ℕ → ℕ) (cell : ℕ → Option Rep) (n v : ℕ)
    → load parent c cell n v ≡ stage_part parent c cell n v + ends_part parent cell n v
unfolding load stage_part ends_part
load_parts parent c cell n v =
    omega (arith, sum_of_filter c (in_stage parent cell v) (nodes n), sum_of_filter (λ (w : ℕ). input_capacitance (cell w)) (ends_stage parent cell v) (nodes n))

-- the load of any other node stays
pub load_other : (before after : ℕ → ℕ) (i p : ℕ) → Hung before after i p → (c : ℕ → ℕ) (cell : ℕ → Option Rep) (n v : ℕ) → v ≢ p
    → load after c cell n v ≡ load before c cell n v
unfolding stage_part ends_part
load_other before after i p h c cell n v v_p =
    let a : stage_part after c cell n v ≡ stage_part before c cell n v =
    sum_of_same _ _ (nodes n) (λ w. ap (λ (t : Bool). cond t (c w) 0) (stage_other before after i p h cell v v_p w)) in
    let b : ends_part after cell n v ≡ ends_part before cell n v =
    sum_of_same _ _ (nodes n) (λ w. ap (λ (t : Bool). cond t (input_capacitance (cell w)) 0) (end_other before after i p h cell v v_p w)) in
    cc (load_parts after c cell n v, load_parts before c cell n v)

sum_of_choice : (b : Bool) (f g : ℕ → ℕ) (xs : List ℕ) → sum_by (λ w. cond b (f w) (g w)) xs ≡ cond b (sum_by f xs) (sum_by g xs)
sum_of_choice true f g xs = refl
sum_of_choice false f g xs = refl

seen_is : (o : Option Rep) (a b : ℕ) → cond (is_some o) 0 a + cond (is_some o) (input_capacitance o) b ≡ seen o (a + b)
seen_is None a b = refl
seen_is (Some rep) a b = omega arith

-- the load of p grows by what is seen of i
pub load_hung : (before after : ℕ → ℕ) (i p : ℕ) → Hung before after i p → (c : ℕ → ℕ) (cell : ℕ → Option Rep) (n : ℕ) → i < n
    → load after c cell n p ≡ load before c cell n p + input_load before c cell n i
unfolding input_load stage_part ends_part
load_hung before after i p h c cell n i_n =
    let hi : Bool = has_cell cell i in
    let stage : stage_part after c cell n p ≡ stage_part before c cell n p + cond (has_cell cell i) 0 (stage_part before c cell n i) =
    sum_of_same _ _ (nodes n) (λ w. stage_hung before after i p h cell (c w) w)
    ∙ sum_of_both _ _ (nodes n)
    ∙ ap (λ (m : ℕ). stage_part before c cell n p + m)
    (sum_of_choice (has_cell cell i) (λ w. 0) (λ w. cond (in_stage before cell i w) (c w) 0) (nodes n)
    ∙ ap (λ (m : ℕ). cond (has_cell cell i) m (stage_part before c cell n i)) (sum_of_none (nodes n))) in
    let ends : ends_part after cell n p ≡ ends_part before cell n p + cond (has_cell cell i) (input_capacitance (cell i)) (ends_part before cell n i) =
    sum_of_same _ _ (nodes n) (λ w. end_hung before after i p h cell (input_capacitance (cell w)) w)
    ∙ sum_of_both _ _ (nodes n)
    ∙ ap (λ (m : ℕ). ends_part before cell n p + m)
    (sum_of_choice (has_cell cell i) (λ w. cond (eqb w i) (input_capacitance (cell w)) 0) (λ w. cond (ends_stage before cell i w) (input_capacitance (cell w)) 0) (nodes n)
    ∙ ap (λ (m : ℕ). cond (has_cell cell i) m (ends_part before cell n i)) (sum_at (λ w. input_capacitance (cell w)) i 0 n (omega arith) (omega arith))) in
    let own : cond (has_cell cell i) 0 (stage_part before c cell n i) + cond (has_cell cell i) (input_capacitance (cell i)) (ends_part before cell n i)
    ≡ seen (cell i) (load before c cell n i) =
    seen_is (cell i) (stage_part before c cell n i) (ends_part before cell n i) ∙ ap (seen (cell i)) (sym (load_parts before c cell n i)) in
    omega (arith, load_parts after c cell n p, load_parts before c cell n p, stage, ends, own)

pub input_load_other : (before after : ℕ → ℕ) (i p : ℕ) → Hung before after i p → (c : ℕ → ℕ) (cell : ℕ → Option Rep) (n v : ℕ) → v ≢ p
    → input_load after c cell n v ≡ input_load before c cell n v
unfolding input_load
input_load_other before after i p h c cell n v v_p = ap (seen (cell v)) (load_other before after i p h c cell n v v_p)
