-- Nodes with a sink at or below them, loads by live children, and delays by way of a child.
use Rattle.std.proofs.Common.{◌≡◌, ℕ, ◌+◌, ◌*◌, ◌<◌, Bool, true, false, not, ◌&&◌, ◌||◌, List, [], ◌∷◌, length, slice_index_or, refl, sym, ap, ◌∙◌, eqb, arith, inl, inr, Option, Some, None, is_some}
use Rattle.std.proofs.lemmas.Bool.{cases_Bool, and_parts, false≢true}
use Rattle.std.proofs.lemmas.List.Folds.{list_any_at}
use Rattle.std.proofs.lemmas.List.FromFn.{length-range_with_len, get_or-range_with_len}
use Rattle.std.specs.List.{Contains, sum_by, list_any}
use Rattle.elmore.specs.Cells.{cell_at, rep_of, cell_delay}
use Rattle.elmore.specs.Laws.{children_of}
use Rattle.elmore.specs.Legal.{IsPlaced}
use Rattle.elmore.specs.Path.{Falls, is_over, way, nodes as node_numbers}
use Rattle.elmore.specs.Placements.{load_of, input_load_of, delay_between, inverters_between}
use Rattle.elmore.specs.Problems.{is_sink, is_live, is_above_sink, sink_of}
use Rattle.elmore.specs.Stage.{load, input_load, seen}
use Rattle.elmore.specs.Trees.{parent_of, resistance, capacitance}
use Rattle.elmore.specs.Wire.{downstream_in}
use Rattle.cand_pairs.specs.Candidates.{live_children, dead_children, own_capacitance, IsLive}
use Rattle.elmore.specs.declared.tree.Node.{Node}
use Rattle.elmore.specs.declared.rep.Rep.{Rep}
use Rattle.elmore.specs.declared.parts.Sink.{Sink}
use Rattle.elmore.specs.declared.problem.Problem.{Problem}
use Rattle.elmore.proofs.PathLemmas.{over_trans}
use Rattle.elmore.proofs.TreeLemmas.{tree_falls, tree_of}
use Rattle.elmore.proofs.WireLemmas.{bare_load}
use Rattle.elmore.proofs.ChildLoadLemmas.{load_children}
use Rattle.elmore.proofs.LocalLemmas.{same_input_load}
use Rattle.elmore.proofs.PlacedDelayLemmas.{delay_self, delay_below, delay_through}
use Rattle.elmore.proofs.PlacedInverterLemmas.{step_inverters, inverters_parts, inverters_self}
use Rattle.elmore.proofs.WayLemmas.{way_sum_self, way_sum_below, way_sum_through}
use Rattle.elmore.proofs.LeastLemmas.{within_sinks}
use Rattle.cand_pairs.proofs.ChildLemmas.{IsUnderChild, in_cons, over_child, filter_parts, nodes_in}
use Rattle.cand_pairs.proofs.ChoiceLemmas.{sum_alike_in, sum_of_parts}

-- a sink at w, which is at or below v
pub record IsSeen (nodes : List Node) (sinks : List (Option Sink)) (v w : ℕ) : Type 0 where
  pub node : w < length nodes
  pub sink : is_sink sinks w ≡ true
  pub over : is_over (parent_of nodes) v w ≡ true

any_in : (test : ℕ → Bool) (xs : List ℕ) → list_any test xs ≡ true → (w : ℕ) × Contains xs w × (test w ≡ true)
any_in test [] e = absurd (false≢true e)
any_in test (x ∷ xs) e =
    elim (cases_Bool (test x)) [
      | inl here ↦ (x, (0, omega arith, refl), here)
      | inr fails ↦
          let (w, found, passes) = any_in test xs (sym (ap (λ (b : Bool). b || list_any test xs) fails) ∙ e) in
          (w, in_cons x xs w found, passes)
    ]

any_number : (test : ℕ → Bool) (n : ℕ) → list_any test (node_numbers n) ≡ true → (w : ℕ) × (w < n) × (test w ≡ true)
any_number test n e = let (w, found, passes) = any_in test (node_numbers n) e in (w, nodes_in n w found, passes)

pub live_sees : (nodes : List Node) (sinks : List (Option Sink)) (v : ℕ) → is_live nodes sinks v ≡ true → (w : ℕ) × IsSeen nodes sinks v w
unfolding is_live
live_sees nodes sinks v e =
    let (w, w_n, both) = any_number (λ w. is_sink sinks w && is_over (parent_of nodes) v w) (length nodes) e in
    let (sink, over) = and_parts (is_sink sinks w) (is_over (parent_of nodes) v w) both in
    (w, record { node = w_n; sink = sink; over = over })

above_sees : (nodes : List Node) (sinks : List (Option Sink)) (v : ℕ) → is_above_sink nodes sinks v ≡ true → (w : ℕ) × IsSeen nodes sinks v w
unfolding is_above_sink
above_sees nodes sinks v e =
    let (w, w_n, both) = any_number (λ w. is_sink sinks w && (is_over (parent_of nodes) v w && not (eqb w v))) (length nodes) e in
    let (sink, below) = and_parts (is_sink sinks w) (is_over (parent_of nodes) v w && not (eqb w v)) both in
    (w, record { node = w_n; sink = sink; over = (and_parts (is_over (parent_of nodes) v w) (not (eqb w v)) below).0 })

pub seen_live : (nodes : List Node) (sinks : List (Option Sink)) (v w : ℕ) → IsSeen nodes sinks v w → is_live nodes sinks v ≡ true
unfolding is_live
seen_live nodes sinks v w is =
    list_any_at (λ u. is_sink sinks u && is_over (parent_of nodes) v u) (node_numbers (length nodes)) w 0
    (omega (arith, length-range_with_len 0 (length nodes), is.node))
    (rw (get_or-range_with_len 0 (length nodes) w 0 is.node ∙ zero_add w, is.sink) is.over)
  where
    zero_add : (k : ℕ) → 0 + k ≡ k
    zero_add k = omega arith

some_of : (o : Option Sink) → is_some o ≡ true → (sink : Sink) × (o ≡ Some sink)
some_of None e = absurd (false≢true e)
some_of (Some sink) e = (sink, refl)

-- the sink
pub seen_sink : (nodes : List Node) (sinks : List (Option Sink)) (v w : ℕ) → IsSeen nodes sinks v w → (sink : Sink) × (sink_of sinks w ≡ Some sink)
seen_sink nodes sinks v w is = some_of (sink_of sinks w) is.sink

pub sink_live : (p : Problem) (v w : ℕ) (sink : Sink) → sink_of p.sinks w ≡ Some sink → is_over (parent_of p.tree.nodes) v w ≡ true
    → IsLive p v
sink_live p v w sink here over =
    seen_live p.tree.nodes p.sinks v w
    (record {
      node = omega (arith, within_sinks p.sinks w sink here, p.sinks_each);
      sink = ap (λ (o : Option Sink). is_some o) here;
      over = over;
    })

-- a dead node has no cell at it or below it, since no sink is below a place there
pub no_cell : (p : Problem) (cells : List (Option ℕ)) (v u : ℕ) → IsPlaced p cells → is_live p.tree.nodes p.sinks v ≡ false → is_over (parent_of p.tree.nodes) v u ≡ true
    → slice_index_or cells u None ≡ None
no_cell p cells v u placed dead over = go (slice_index_or cells u None) (placed u)
  where
    go : (o : Option ℕ) → ((b : ℕ) → o ≡ Some b → slice_index_or p.places u false ≡ true) → o ≡ None
    go None at = refl
    go (Some b) at =
        let (w, seen) = above_sees p.tree.nodes p.sinks u (p.places_are.above u (at b refl)) in
        absurd (false≢true (sym dead ∙ seen_live p.tree.nodes p.sinks v w (record {
          node = seen.node;
          sink = seen.sink;
          over = over_trans (parent_of p.tree.nodes) (tree_falls p.tree.nodes p.tree.a_tree) v u w over seen.over;
        })))

bare_input_load : (p : Problem) (v : ℕ)
    → input_load (parent_of p.tree.nodes) (capacitance p.tree.nodes) (λ _. None) (length p.tree.nodes) v
    ≡ load (parent_of p.tree.nodes) (capacitance p.tree.nodes) (λ _. None) (length p.tree.nodes) v
unfolding input_load
bare_input_load p v = refl

-- so it is seen as the wire alone
pub dead_input_load : (p : Problem) (cells : List (Option ℕ)) (v : ℕ) → IsPlaced p cells → is_live p.tree.nodes p.sinks v ≡ false
    → input_load_of p cells v ≡ downstream_in p.tree.nodes v
dead_input_load p cells v placed dead =
    same_input_load parent (tree_falls p.tree.nodes p.tree.a_tree) v (cell_at p.reps cells) (λ _. None)
    (record { at = λ u over. ap (rep_of p.reps) (no_cell p cells v u placed dead over) }) c n
    ∙ bare_input_load p v
    ∙ bare_load parent c (λ _. None) (λ _. refl) n v
  where
    parent : ℕ → ℕ
    parent = parent_of p.tree.nodes

    c : ℕ → ℕ
    c = capacitance p.tree.nodes

    n : ℕ
    n = length p.tree.nodes

pub input_load_is : (p : Problem) (cells : List (Option ℕ)) (v : ℕ) → input_load_of p cells v ≡ seen (cell_at p.reps cells v) (load_of p cells v)
unfolding input_load
input_load_is p cells v = refl

-- THE LOAD: the node's own capacitance, and what is seen of its live children
pub load_live : (p : Problem) (cells : List (Option ℕ)) (v : ℕ) → IsPlaced p cells → v < length p.tree.nodes
    → load_of p cells v ≡ own_capacitance p v + sum_by (input_load_of p cells) (live_children p v)
load_live p cells v placed v_n =
    omega (
      arith,
      load_children (parent_of p.tree.nodes) (length p.tree.nodes) (tree_of p.tree.nodes p.tree.a_tree) (capacitance p.tree.nodes) (cell_at p.reps cells) v v_n,
      sum_of_parts (input_load_of p cells) (λ u. is_live p.tree.nodes p.sinks u) (children_of p.tree.nodes v),
      sum_alike_in (input_load_of p cells) (downstream_in p.tree.nodes) (dead_children p v) (λ u found.
          dead_input_load p cells u placed
          (false_of (is_live p.tree.nodes p.sinks u) (filter_parts (λ u. not (is_live p.tree.nodes p.sinks u)) (children_of p.tree.nodes v) u found).1)),
    )
  where
    false_of : (b : Bool) → not b ≡ true → b ≡ false
    false_of true e = absurd (false≢true e)
    false_of false e = refl

-- THE DELAY from a node to one below a child: the own cell's, the wire's, and that from the child
abbrev pub own_of : Problem → List (Option ℕ) → ℕ → ℕ
own_of p cells v = cell_delay (cell_at p.reps cells v) (load_of p cells v)

pub delay_child : (p : Problem) (cells : List (Option ℕ)) (v u w : ℕ) → IsUnderChild p.tree.nodes v w u
    → delay_between p cells v w ≡ own_of p cells v + (resistance p.tree.nodes u * input_load_of p cells u + delay_between p cells u w)
delay_child p cells v u w is =
    omega (
      arith,
      delay_through parent falls r c cell n v u w over is.over,
      delay_below parent falls r c cell n v u (λ e. is.child.other (sym e ∙ is.child.parent)) is.child.other,
      ap (λ (x : ℕ). delay_between p cells v x) is.child.parent,
      delay_self parent falls r c cell n v,
    )
  where
    parent : ℕ → ℕ
    parent = parent_of p.tree.nodes

    falls : Falls (parent_of p.tree.nodes)
    falls = tree_falls p.tree.nodes p.tree.a_tree

    r : ℕ → ℕ
    r = resistance p.tree.nodes

    c : ℕ → ℕ
    c = capacitance p.tree.nodes

    cell : ℕ → Option Rep
    cell = cell_at p.reps cells

    n : ℕ
    n = length p.tree.nodes

    over : is_over (parent_of p.tree.nodes) v u ≡ true
    over = over_child p.tree.nodes p.tree.a_tree v u is.child

pub delay_own : (p : Problem) (cells : List (Option ℕ)) (v : ℕ) → delay_between p cells v v ≡ own_of p cells v
delay_own p cells v =
    delay_self (parent_of p.tree.nodes) (tree_falls p.tree.nodes p.tree.a_tree) (resistance p.tree.nodes) (capacitance p.tree.nodes)
    (cell_at p.reps cells) (length p.tree.nodes) v

pub inverters_child : (p : Problem) (cells : List (Option ℕ)) (v u w : ℕ) → IsUnderChild p.tree.nodes v w u
    → inverters_between p cells v w ≡ step_inverters (cell_at p.reps cells) v + inverters_between p cells u w
inverters_child p cells v u w is =
    omega (
      arith,
      inverters_parts parent cell v w,
      inverters_parts parent cell u w,
      way_sum_through parent falls (step_inverters cell) v u w over is.over,
      way_sum_below parent falls (step_inverters cell) v u (λ e. is.child.other (sym e ∙ is.child.parent)) is.child.other,
      ap (λ (x : ℕ). sum_by (step_inverters cell) (way parent v x)) is.child.parent,
      way_sum_self parent falls (step_inverters cell) v,
    )
  where
    parent : ℕ → ℕ
    parent = parent_of p.tree.nodes

    falls : Falls (parent_of p.tree.nodes)
    falls = tree_falls p.tree.nodes p.tree.a_tree

    cell : ℕ → Option Rep
    cell = cell_at p.reps cells

    over : is_over (parent_of p.tree.nodes) v u ≡ true
    over = over_child p.tree.nodes p.tree.a_tree v u is.child

pub inverters_own : (p : Problem) (cells : List (Option ℕ)) (v : ℕ) → inverters_between p cells v v ≡ step_inverters (cell_at p.reps cells) v
inverters_own p cells v = inverters_self (parent_of p.tree.nodes) (tree_falls p.tree.nodes p.tree.a_tree) (cell_at p.reps cells) v
