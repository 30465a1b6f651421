-- Loads and delays of the wire alone: without cells a load is the capacitance downstream.
use Rattle.std.proofs.Common.{◌≡◌, ℕ, ◌+◌, ◌*◌, ◌<◌, ◌≤◌, Bool, true, false, not, ◌&&◌, List, [], ◌∷◌, refl, sym, ap, ◌∙◌, cond, arith, Option, None}
use Rattle.std.specs.List.{sum_by, filter, list_all}
use Rattle.elmore.specs.Path.{Falls, is_over, is_child, way, nodes}
use Rattle.elmore.specs.Cells.{has_cell, input_capacitance, cell_delay}
use Rattle.elmore.specs.Stage.{in_stage, ends_stage, load, input_load}
use Rattle.elmore.specs.Delay.{delay_from}
use Rattle.elmore.specs.Wire.{downstream, wire_delay}
use Rattle.elmore.specs.declared.rep.Rep.{Rep}
use Rattle.elmore.proofs.SumLemmas.{sum_of_same, sum_of_none, sum_of_filter, sum_of_filter_le, sum_of_alike}
use Rattle.elmore.proofs.RootLemmas.{IsRooted, root_over}
use Rattle.elmore.proofs.WayLemmas.{way_sum_self, way_sum_below}
use Rattle.elmore.proofs.HungLoadLemmas.{load_parts, stage_part, ends_part}
use Rattle.elmore.proofs.ChildLoadLemmas.{load_children}
use Rattle.elmore.proofs.PlacedDelayLemmas.{step_delay, delay_parts, delay_bound}

pub downstream_sum : (parent c : ℕ → ℕ) (n v : ℕ) → downstream parent c n v ≡ sum_by (λ w. cond (is_over parent v w) (c w) 0) (nodes n)
unfolding downstream
downstream_sum parent c n v = sum_of_filter c (is_over parent v) (nodes n)

bare_stage : (parent : ℕ → ℕ) (cell : ℕ → Option Rep) → ((u : ℕ) → cell u ≡ None) → (v w : ℕ) → in_stage parent cell v w ≡ is_over parent v w
unfolding in_stage
bare_stage parent cell bare v w = rw (all (way parent v w)) (plain (is_over parent v w))
  where
    all : (xs : List ℕ) → list_all (λ u. not (has_cell cell u)) xs ≡ true
    all [] = refl
    all (u ∷ xs) = rw (bare u) (all xs)

    plain : (b : Bool) → (b && true) ≡ b
    plain true = refl
    plain false = refl

pub bare_load : (parent c : ℕ → ℕ) (cell : ℕ → Option Rep) → ((u : ℕ) → cell u ≡ None) → (n v : ℕ) → load parent c cell n v ≡ downstream parent c n v
unfolding stage_part ends_part
bare_load parent c cell bare n v =
    omega (
      arith,
      load_parts parent c cell n v,
      downstream_sum parent c n v,
      sum_of_same _ _ (nodes n) (λ w. ap (λ (b : Bool). cond b (c w) 0) (bare_stage parent cell bare v w)),
      sum_of_same _ _ (nodes n) none,
      sum_of_none {X = ℕ} (nodes n),
    )
  where
    none : (w : ℕ) → cond (ends_stage parent cell v w) (input_capacitance (cell w)) 0 ≡ 0
    none w = rw (bare w) (either (ends_stage parent cell v w))
      where
        either : (b : Bool) → cond {A = ℕ} b 0 0 ≡ 0
        either true = refl
        either false = refl

pub bare_input_load : (parent c : ℕ → ℕ) (cell : ℕ → Option Rep) → ((u : ℕ) → cell u ≡ None) → (n v : ℕ) → input_load parent c cell n v ≡ downstream parent c n v
unfolding input_load
bare_input_load parent c cell bare n v = rw (bare v) (bare_load parent c cell bare n v)

pub bare_delay : (parent r c : ℕ → ℕ) (cell : ℕ → Option Rep) → ((u : ℕ) → cell u ≡ None) → (n w : ℕ) → delay_from parent r c cell n 0 w ≡ wire_delay parent r c n w
unfolding wire_delay
bare_delay parent r c cell bare n w =
    omega (arith, delay_parts parent r c cell n 0 w, own 0, sum_of_same (step_delay parent r c cell n) (λ u. r u * downstream parent c n u) (way parent 0 w) step)
  where
    own : (u : ℕ) → cell_delay (cell u) (load parent c cell n u) ≡ 0
    own u = rw (bare u) refl

    step : (u : ℕ) → step_delay parent r c cell n u ≡ r u * downstream parent c n u
    step u = omega (arith, own u, ap (λ (k : ℕ). r u * k) (bare_input_load parent c cell bare n u))

-- the same where no node has one
abbrev pub no_cell : ℕ → Option Rep
no_cell u = None

-- no node has more below it than there is
pub downstream_bound : (parent c : ℕ → ℕ) (n v : ℕ) → downstream parent c n v ≤ sum_by c (nodes n)
unfolding downstream
downstream_bound parent c n v = sum_of_filter_le c (is_over parent v) (nodes n)

-- the root has everything below it
pub downstream_root : (parent : ℕ → ℕ) (n : ℕ) → IsRooted parent n → (c : ℕ → ℕ) → downstream parent c n 0 ≡ sum_by c (nodes n)
downstream_root parent n t c = downstream_sum parent c n 0 ∙ sum_of_alike _ _ n (λ w w_n. rw (root_over parent n t w w_n) refl)

pub downstream_children : (parent : ℕ → ℕ) (n : ℕ) → IsRooted parent n → (c : ℕ → ℕ) (v : ℕ) → v < n
    → downstream parent c n v ≡ c v + sum_by (downstream parent c n) (filter (is_child parent v) (nodes n))
downstream_children parent n t c v v_n =
    sym (bare_load parent c no_cell (λ _. refl) n v)
    ∙ load_children parent n t c no_cell v v_n
    ∙ ap (λ (k : ℕ). c v + k) (sum_of_same _ _ (filter (is_child parent v) (nodes n)) (bare_input_load parent c no_cell (λ _. refl) n))

-- nothing is above the root
pub wire_delay_root : (parent : ℕ → ℕ) → Falls parent → (r c : ℕ → ℕ) (n : ℕ) → wire_delay parent r c n 0 ≡ 0
unfolding wire_delay
wire_delay_root parent falls r c n = way_sum_self parent falls (λ u. r u * downstream parent c n u) 0

-- one step down
pub wire_delay_step : (parent : ℕ → ℕ) → Falls parent → (r c : ℕ → ℕ) (n w : ℕ) → parent w < w
    → wire_delay parent r c n w ≡ wire_delay parent r c n (parent w) + r w * downstream parent c n w
unfolding wire_delay
wire_delay_step parent falls r c n w above =
    omega (arith, way_sum_below parent falls (λ u. r u * downstream parent c n u) 0 w (λ e. omega arith) (λ e. omega arith))

-- a delay is at most all resistances times all capacitances
pub wire_delay_bound : (parent : ℕ → ℕ) (n : ℕ) → IsRooted parent n → (r c : ℕ → ℕ) (w : ℕ) → w < n
    → wire_delay parent r c n w ≤ sum_by c (nodes n) * sum_by r (nodes n)
wire_delay_bound parent n t r c w w_n =
    omega (
      arith,
      bare_delay parent r c no_cell (λ _. refl) n w,
      delay_bound parent n t r c no_cell (sum_by c (nodes n)) 0
          (λ u _. omega (arith, bare_input_load parent c no_cell (λ _. refl) n u, downstream_bound parent c n u))
          (λ u _. omega arith) w w_n,
    )
