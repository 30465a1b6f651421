-- Delays with widths, one wire at a time.
use Rattle.std.proofs.Common.{◌≡◌, ℕ, ◌+◌, ◌*◌, ◌<◌, ◌≤◌, ◌^◌, List, Option, ap, ◌∙◌, arith, length, slice_index_or, None, ℤ, pos, ◌+ℤ◌, ◌-ℤ◌}
use Rattle.std.proofs.lemmas.Int.{ints}
use Rattle.elmore.specs.Cells.{rep_of, cell_at, cell_delay}
use Rattle.elmore.specs.Stage.{seen}
use Rattle.elmore.specs.Trees.{parent_of, capacitance}
use Rattle.elmore.specs.Placed.{IsLeast}
use Rattle.elmore.specs.Placements.{IsSinkAt}
use Rattle.elmore.specs.declared.parts.Sink.{Sink}
use Rattle.elmore.specs.declared.problem.Problem.{Problem}
use Rattle.elmore.specs.declared.rep.Rep.{Rep}
use Rattle.elmore.specs.declared.tree.Node.{Node}
use Rattle.elmore.proofs.FilledLemmas.{AreFilled}
use Rattle.elmore.proofs.LeastLemmas.{within_sinks}
use Rattle.elmore.proofs.PlacedDelayLemmas.{delay_below}
use Rattle.elmore.proofs.RootLemmas.{IsRooted, root_over}
use Rattle.elmore.proofs.TreeLemmas.{tree_of, parent_read, resistance_read}
use Rattle.wire_widths.specs.Widths.{wide_load, wide_input_load, wide_delay, wide_cell, wide_capacitance, wide_load_of, wide_input_load_of, wide_delay_between, r_of, a_of, width_at, chosen_at, added_by, resistance_by, wide_slack_at, IsWideSlack}
use Rattle.wire_widths.specs.declared.width.Width.{Width}
use Rattle.wire_widths.proofs.WideBoundLemmas.{wide_input_load_bound}
use Rattle.wire_widths.proofs.WideLoadLemmas.{delays_wide, input_loads_wide, cells_wide, wide_self}
use Rattle.wire_widths.proofs.WideSmallLemmas.{wide_load_small, wide_delay_small}
use Rattle.vg_width.specs.Nets.{IsWideNet}
use Rattle.vg_width.proofs.LoadLemmas.{all_small, charged_is}

wide_below : (parent : ℕ → ℕ) (n : ℕ) → IsRooted parent n → (r a c : ℕ → ℕ) (cell : ℕ → Option Rep) (v : ℕ) → 0 < v → v < n
    → wide_delay parent r a c cell n 0 v
    ≡ wide_delay parent r a c cell n 0 (parent v) + (r v * (wide_input_load parent c a cell n v + a v) + cell_delay (cell v) (wide_load parent c a cell n v))
wide_below parent n t r a c cell v v_0 v_n =
    omega (
      arith,
      t.above v v_0 v_n,
      delay_below parent t.falls r (wide_capacitance c a cell) (wide_cell a cell) n 0 v (λ e. omega (arith, e, t.above v v_0 v_n)) (λ e. omega arith),
      delays_wide parent r a c cell n t 0 v (omega arith) (root_over parent n t v v_n),
      delays_wide parent r a c cell n t 0 (parent v) (omega arith) (root_over parent n t (parent v) (omega (arith, t.above v v_0 v_n))),
      ap (λ k. r v * k) (input_loads_wide parent c a cell t.falls n v v_n),
      cells_wide parent c a cell t.falls n v v_n,
    )

-- the root's delay, and the others by one step
pub root_delay : (p : Problem) (widths : List Width) (cells : List (Option ℕ)) (chosen : List ℕ)
    → wide_delay_between p widths cells chosen 0 0 ≡ cell_delay (cell_at p.reps cells 0) (wide_load_of p widths cells chosen 0)
root_delay p widths cells chosen =
    wide_self (parent_of p.tree.nodes) (r_of p widths chosen) (a_of p widths chosen) (capacitance p.tree.nodes) (cell_at p.reps cells)
    (tree_of p.tree.nodes p.tree.a_tree).falls (length p.tree.nodes) 0

pub next_delay : (p : Problem) (widths : List Width) (cells : List (Option ℕ)) (chosen : List ℕ) (v : ℕ) → 0 < v → v < length p.tree.nodes
    → wide_delay_between p widths cells chosen 0 v
    ≡ wide_delay_between p widths cells chosen 0 (parent_of p.tree.nodes v)
    + (r_of p widths chosen v * (wide_input_load_of p widths cells chosen v + a_of p widths chosen v)
    + cell_delay (cell_at p.reps cells v) (wide_load_of p widths cells chosen v))
next_delay p widths cells chosen v v_0 v_n =
    wide_below (parent_of p.tree.nodes) (length p.tree.nodes) (tree_of p.tree.nodes p.tree.a_tree) (r_of p widths chosen) (a_of p widths chosen)
    (capacitance p.tree.nodes) (cell_at p.reps cells) v v_0 v_n

-- how large they can be
pub load_small : (p : Problem) (widths : List Width) (cells : List (Option ℕ)) (chosen : List ℕ) (v : ℕ) → IsWideNet p widths cells chosen → v < length p.tree.nodes
    → wide_load_of p widths cells chosen v ≤ 10 ^ 11
load_small p widths cells chosen v net v_n = wide_load_small p widths cells chosen v net.are net.fits net.placement net.placed net.lawful v_n

pub charge_small : (p : Problem) (widths : List Width) (cells : List (Option ℕ)) (chosen : List ℕ) (v : ℕ) → IsWideNet p widths cells chosen → v < length p.tree.nodes
    → wide_input_load_of p widths cells chosen v + a_of p widths chosen v ≤ 10 ^ 11
charge_small p widths cells chosen v net v_n =
    omega (
      arith,
      wide_input_load_bound (parent_of p.tree.nodes) (length p.tree.nodes) (tree_of p.tree.nodes p.tree.a_tree) (capacitance p.tree.nodes) (a_of p widths chosen)
          (cell_at p.reps cells) v v_n,
      all_small p widths cells chosen net,
    )

pub delay_small : (p : Problem) (widths : List Width) (cells : List (Option ℕ)) (chosen : List ℕ) (v : ℕ) → IsWideNet p widths cells chosen → v < length p.tree.nodes
    → wide_delay_between p widths cells chosen 0 v ≤ 9 * 10 ^ 24
delay_small p widths cells chosen v net v_n = wide_delay_small p widths cells chosen v net.are net.fits net.placement net.placed net.lawful v_n

-- what the code reads for the wire of v, and what stands at its upper end
pub charge_is : (p : Problem) (widths : List Width) (cells : List (Option ℕ)) (chosen : List ℕ) (v load added up : ℕ) (nodes : List Node) (reps : List Rep) (d : Node)
    (width : Width) → nodes ≡ p.tree.nodes → reps ≡ p.reps → v < length p.tree.nodes → width ≡ width_at widths (chosen_at chosen v)
    → added ≡ added_by width (slice_index_or nodes v d).r → up ≡ seen (rep_of reps (slice_index_or cells v None)) load + added
    → load ≡ wide_load_of p widths cells chosen v → up ≡ wide_input_load_of p widths cells chosen v + a_of p widths chosen v
charge_is p widths cells chosen v load added up nodes reps d width nodes_are reps_are v_n width_is added_is up_is load_is =
    charged_is p widths cells chosen v load added up nodes reps d width nodes_are reps_are v_n width_is added_is up_is
    ∙ ap (λ l. seen (cell_at p.reps cells v) l + a_of p widths chosen v) load_is

pub resistance_is : (p : Problem) (widths : List Width) (chosen : List ℕ) (v r : ℕ) (nodes : List Node) (d : Node) (width : Width) → nodes ≡ p.tree.nodes
    → v < length p.tree.nodes → width ≡ width_at widths (chosen_at chosen v) → r ≡ resistance_by width (slice_index_or nodes v d).r → r ≡ r_of p widths chosen v
resistance_is p widths chosen v r nodes d width nodes_are v_n width_is r_is =
    r_is ∙ ap (λ w. resistance_by w (slice_index_or nodes v d).r) width_is
    ∙ ap (resistance_by (width_at widths (chosen_at chosen v))) (ap (λ ns. (slice_index_or ns v d).r) nodes_are ∙ resistance_read p.tree.nodes v d v_n)

pub before_is : (p : Problem) (f : ℕ → ℕ) (delays : List ℕ) (v : ℕ) (nodes : List Node) (d : Node) → nodes ≡ p.tree.nodes → 0 < v → v < length p.tree.nodes
    → AreFilled f 0 v delays → slice_index_or delays (slice_index_or nodes v d).parent 0 ≡ f (parent_of p.tree.nodes v)
before_is p f delays v nodes d nodes_are v_0 v_n filled =
    ap (λ u. slice_index_or delays u 0) (ap (λ ns. (slice_index_or ns v d).parent) nodes_are ∙ parent_read p.tree.nodes v d v_n)
    ∙ filled.each (parent_of p.tree.nodes v) (p.tree.a_tree.smaller v v_0 v_n)

pub delay_step : (p : Problem) (widths : List Width) (cells : List (Option ℕ)) (chosen : List ℕ) (v before r load own : ℕ) → 0 < v → v < length p.tree.nodes
    → before ≡ wide_delay_between p widths cells chosen 0 (parent_of p.tree.nodes v) → r ≡ r_of p widths chosen v
    → load ≡ wide_input_load_of p widths cells chosen v + a_of p widths chosen v
    → own ≡ cell_delay (cell_at p.reps cells v) (wide_load_of p widths cells chosen v)
    → (before + r * load) + own ≡ wide_delay_between p widths cells chosen 0 v
delay_step p widths cells chosen v before r load own v_0 v_n before_is r_is load_is own_is =
    omega (
      arith,
      next_delay p widths cells chosen v v_0 v_n,
      before_is,
      ap (λ k. k * load) r_is,
      ap (λ k. r_of p widths chosen v * k) load_is,
      own_is,
    )

-- a cell's delay, by the code's list of repeaters and its load
pub own_is : (p : Problem) (widths : List Width) (cells : List (Option ℕ)) (chosen : List ℕ) (v load own : ℕ) (reps : List Rep) → reps ≡ p.reps
    → load ≡ wide_load_of p widths cells chosen v → own ≡ cell_delay (rep_of reps (slice_index_or cells v None)) load
    → own ≡ cell_delay (cell_at p.reps cells v) (wide_load_of p widths cells chosen v)
own_is p widths cells chosen v load own reps reps_are load_is is =
    is ∙ ap (λ rs. cell_delay (rep_of rs (slice_index_or cells v None)) load) reps_are ∙ ap (cell_delay (cell_at p.reps cells v)) load_is

-- the least that the sinks have left, by the delays from the root, is the slack
pub slack_is : (p : Problem) (widths : List Width) (cells : List (Option ℕ)) (chosen : List ℕ) (delays : List ℕ) (start x : ℤ)
    → start ≡ p.driver.arrival +ℤ p.driver.k +ℤ pos (p.driver.r * wide_load_of p widths cells chosen 0)
    → ((v : ℕ) → v < length p.tree.nodes → slice_index_or delays v 0 ≡ wide_delay_between p widths cells chosen 0 v)
    → IsLeast p.sinks (λ v sink. sink.required -ℤ (start +ℤ pos (slice_index_or delays v 0))) x
    → IsWideSlack p widths cells chosen x
slack_is p widths cells chosen delays start x start_is delays_are least = record {
  least = λ w sink here. rw (← same w sink here) (least.least w sink here);
  met = let (w, sink, here, is) = least.met in (w, sink, here, is ∙ same w sink here);
}
  where
    same : (w : ℕ) (sink : Sink) → IsSinkAt p w sink → sink.required -ℤ (start +ℤ pos (slice_index_or delays w 0)) ≡ wide_slack_at p widths cells chosen w sink
    same w sink here =
        rw (start_is, delays_are w (omega (arith, within_sinks p.sinks w sink here, p.sinks_each)))
        (omega (arith, ints))
