-- A problem whose wires have no resistance: with the pairs above the wires in the place of the pairs below them, its steps are
-- those with widths. So all that is known of steps, parts and turns serves for widths too.
use Rattle.std.proofs.Common.{◌≡◌, ◌↔◌, ℕ, ◌+◌, ◌*◌, ◌<◌, Bool, not, ◌&&◌, List, [], ◌∷◌, length, map, refl, sym, ap, ◌∙◌, subst, eqb, arith, inl, inr, Option}
use Rattle.std.proofs.lemmas.Int.{ints}
use Rattle.std.proofs.lemmas.Bool.{cases_lt}
use Rattle.std.proofs.lemmas.List.{get_or-map, length-map, get_or_past}
use Rattle.std.proofs.lemmas.List.Sums.{sum_by-cons}
use Rattle.std.specs.List.{Contains, filter, sum_by, list_any}
use Rattle.elmore.specs.Path.{is_over, is_child, nodes}
use Rattle.elmore.specs.Cells.{rep_of}
use Rattle.elmore.specs.Problems.{is_live, is_above_sink, is_sink, live_nodes}
use Rattle.elmore.specs.Trees.{IsTree, parent_of, resistance, capacitance, total_resistance, total_capacitance}
use Rattle.elmore.specs.Wire.{downstream, downstream_in}
use Rattle.elmore.specs.declared.tree.Node.{Node}
use Rattle.elmore.specs.declared.parts.Sink.{Sink}
use Rattle.elmore.specs.declared.pair.Pair.{Pair}
use Rattle.elmore.specs.declared.problem.Problem.{Problem}
use Rattle.cand_pairs.specs.Candidates.{live_children, own_capacitance, carried, past_cell, IsOpenBy, IsOpen, IsStep, PairSets, Fork, fork_of, whole_fork}
use Rattle.cand_pairs.proofs.ChildLemmas.{IsChild}
use Rattle.cand_pairs.proofs.ChoiceLemmas.{choose, sum_alike_in}
use Rattle.wire_widths.specs.declared.width.Width.{Width}
use Rattle.wire_widths.specs.WidePairs.{Above, carried_by, IsWideOpenBy, IsWideOpen, IsWideStep}

abbrev pub still_node : Node → Node
still_node node = record { parent = node.parent; r = 0; c = node.c }

abbrev pub still_nodes : List Node → List Node
still_nodes xs = map still_node xs

pub still_length : (xs : List Node) → length (still_nodes xs) ≡ length xs
still_length xs = length-map xs still_node

pub still_parent : (xs : List Node) (v : ℕ) → parent_of (still_nodes xs) v ≡ parent_of xs v
still_parent xs v =
    elim (cases_lt v (length xs)) [
      | inl low ↦ ap (λ (n : Node). n.parent) (get_or-map still_node xs v (record { parent = v; r = 0; c = 0 }) (record { parent = v; r = 0; c = 0 }) low)
      | inr high ↦
          ap (λ (n : Node). n.parent) (get_or_past (still_nodes xs) v (record { parent = v; r = 0; c = 0 }) (omega (arith, still_length xs)))
          ∙ sym (ap (λ (n : Node). n.parent) (get_or_past xs v (record { parent = v; r = 0; c = 0 }) high))
    ]

pub still_capacitance : (xs : List Node) (v : ℕ) → capacitance (still_nodes xs) v ≡ capacitance xs v
still_capacitance xs v =
    elim (cases_lt v (length xs)) [
      | inl low ↦ ap (λ (n : Node). n.c) (get_or-map still_node xs v (record { parent = v; r = 0; c = 0 }) (record { parent = v; r = 0; c = 0 }) low)
      | inr high ↦
          ap (λ (n : Node). n.c) (get_or_past (still_nodes xs) v (record { parent = v; r = 0; c = 0 }) (omega (arith, still_length xs)))
          ∙ sym (ap (λ (n : Node). n.c) (get_or_past xs v (record { parent = v; r = 0; c = 0 }) high))
    ]

pub still_resistance : (xs : List Node) (v : ℕ) → resistance (still_nodes xs) v ≡ 0
still_resistance xs v =
    elim (cases_lt v (length xs)) [
      | inl low ↦ ap (λ (n : Node). n.r) (get_or-map still_node xs v (record { parent = v; r = 0; c = 0 }) (record { parent = v; r = 0; c = 0 }) low)
      | inr high ↦ ap (λ (n : Node). n.r) (get_or_past (still_nodes xs) v (record { parent = v; r = 0; c = 0 }) (omega (arith, still_length xs)))
    ]

pub still_parents : (xs : List Node) → parent_of (still_nodes xs) ≡ parent_of xs
still_parents xs = λ i v. still_parent xs v i

pub still_capacitances : (xs : List Node) → capacitance (still_nodes xs) ≡ capacitance xs
still_capacitances xs = λ i v. still_capacitance xs v i

pub still_tree : (xs : List Node) → IsTree xs → IsTree (still_nodes xs)
still_tree xs t = record {
  some_node = omega (arith, t.some_node, still_length xs);
  root = still_parent xs 0 ∙ t.root;
  bare_root = still_resistance xs 0;
  smaller = λ v v_0 v_n. omega (arith, still_parent xs v, t.smaller v v_0 (omega (arith, still_length xs)));
}

pub still_live : (xs : List Node) (sinks : List (Option Sink)) → is_live (still_nodes xs) sinks ≡ is_live xs sinks
unfolding is_live
still_live xs sinks = λ i v. list_any (λ w. is_sink sinks w && is_over (still_parents xs i) v w) (nodes (still_length xs i))

pub still_above : (xs : List Node) (sinks : List (Option Sink)) → is_above_sink (still_nodes xs) sinks ≡ is_above_sink xs sinks
unfolding is_above_sink
still_above xs sinks = λ i v. list_any (λ w. is_sink sinks w && (is_over (still_parents xs i) v w && not (eqb w v))) (nodes (still_length xs i))

pub still_marks : (xs : List Node) (sinks : List (Option Sink)) → live_nodes (still_nodes xs) sinks ≡ live_nodes xs sinks
still_marks xs sinks = λ i. map (still_live xs sinks i) (nodes (still_length xs i))

pub still_total_r : (xs : List Node) → total_resistance (still_nodes xs) ≡ 0
still_total_r [] = refl
still_total_r (x ∷ xs) = omega (arith, sum_by-cons (λ (n : Node). n.r) (still_node x) (still_nodes xs), still_total_r xs)

pub still_total_c : (xs : List Node) → total_capacitance (still_nodes xs) ≡ total_capacitance xs
still_total_c [] = refl
still_total_c (x ∷ xs) =
    omega (arith, sum_by-cons (λ (n : Node). n.c) (still_node x) (still_nodes xs), sum_by-cons (λ (n : Node). n.c) x xs, still_total_c xs)

unfoldable pub still : Problem → Problem
still p = record {
  tree = record { nodes = still_nodes p.tree.nodes; a_tree = still_tree p.tree.nodes p.tree.a_tree };
  driver = p.driver;
  sinks = p.sinks;
  places = p.places;
  live = p.live;
  reps = p.reps;
  allowed = p.allowed;
  sinks_each = p.sinks_each ∙ sym (still_length p.tree.nodes);
  some_sink = p.some_sink;
  places_are = record {
    one_each = p.places_are.one_each ∙ sym (still_length p.tree.nodes);
    root = p.places_are.root;
    no_sink = p.places_are.no_sink;
    above = λ v place. ap (λ f. f v) (still_above p.tree.nodes p.sinks) ∙ p.places_are.above v place;
  };
  live_are = p.live_are ∙ sym (still_marks p.tree.nodes p.sinks);
  rising = p.rising;
  allowed_are = record {
    one_each = p.allowed_are.one_each ∙ sym (still_length p.tree.nodes);
    rising = p.allowed_are.rising;
    named = p.allowed_are.named;
  };
  within = record {
    nodes = omega (arith, p.within.nodes, still_length p.tree.nodes);
    resistances = omega (arith, still_total_r p.tree.nodes);
    capacitances = omega (arith, p.within.capacitances, still_total_c p.tree.nodes);
    repeaters = p.within.repeaters;
    each_repeater = p.within.each_repeater;
    drives = p.within.drives;
    times = p.within.times;
  };
}

pub still_children : (p : Problem) (v : ℕ) → live_children (still p) v ≡ live_children p v
unfolding still
still_children p v = λ i. filter (λ u. still_live p.tree.nodes p.sinks i u) (filter (is_child (still_parents p.tree.nodes i) v) (nodes (still_length p.tree.nodes i)))

pub still_own : (p : Problem) (v : ℕ) → own_capacitance (still p) v ≡ own_capacitance p v
unfolding still
still_own p v = λ i.
    still_capacitance p.tree.nodes v i
    + sum_by (λ u. downstream (still_parents p.tree.nodes i) (still_capacitances p.tree.nodes i) (still_length p.tree.nodes i) u)
    (filter (λ u. not (still_live p.tree.nodes p.sinks i u)) (filter (is_child (still_parents p.tree.nodes i) v) (nodes (still_length p.tree.nodes i))))

pub still_fork : (p : Problem) (v : ℕ) → whole_fork (still p) v ≡ whole_fork p v
still_fork p v = λ i. fork_of v (still_own p v i) (still_children p v i)

-- children, live nodes and what is below a node are those of the problem
pub still_child : (p : Problem) (v u : ℕ) → IsChild p.tree.nodes v u → IsChild (still p).tree.nodes v u
unfolding still
still_child p v u is = record {
  parent = still_parent p.tree.nodes u ∙ is.parent;
  other = is.other;
  node = omega (arith, is.node, still_length p.tree.nodes);
}

pub child_still : (p : Problem) (v u : ℕ) → IsChild (still p).tree.nodes v u → IsChild p.tree.nodes v u
unfolding still
child_still p v u is = record {
  parent = sym (still_parent p.tree.nodes u) ∙ is.parent;
  other = is.other;
  node = omega (arith, is.node, still_length p.tree.nodes);
}

pub still_is_live : (p : Problem) (v : ℕ) → is_live (still p).tree.nodes (still p).sinks v ≡ is_live p.tree.nodes p.sinks v
unfolding still
still_is_live p v = λ i. still_live p.tree.nodes p.sinks i v

pub still_downstream : (p : Problem) (v : ℕ) → downstream_in (still p).tree.nodes v ≡ downstream_in p.tree.nodes v
unfolding still
still_downstream p v = λ i. downstream (still_parents p.tree.nodes i) (still_capacitances p.tree.nodes i) (still_length p.tree.nodes i) v

-- a wire without resistance carries a pair as it is
pub still_carried : (p : Problem) (u : ℕ) (x : Pair) → (carried (still p) u x).q ≡ x.q
unfolding still
still_carried p u x = omega (arith, ints, ap (λ k. k * x.c) (still_resistance p.tree.nodes u))

-- THE LAW, for any children: pairs through wires under rows are pairs above the wires
pub open_to_still : (p : Problem) (widths : List Width) (In : PairSets) (odd : Bool) (fork : Fork) (pick : ℕ → Pair) (row : ℕ → ℕ) (x : Pair)
    → IsWideOpenBy p widths In odd fork pick row x
    → IsOpenBy (still p) (Above p widths In) odd fork (λ u. carried_by p widths u (row u) (pick u)) x
unfolding still
open_to_still p widths In odd fork pick row x is = record {
  chosen = λ u found. (row u, pick u, is.rows u found, is.chosen u found, refl);
  wanted = is.wanted;
  joined = record {
    least = λ u found. omega (arith, ints, is.joined.least u found, still_carried p u (carried_by p widths u (row u) (pick u)));
    in_time = is.joined.in_time;
    met = elim is.joined.met [
      | inl (u, found, e) ↦ inl (u, found, e ∙ sym (still_carried p u (carried_by p widths u (row u) (pick u))))
      | inr at_sink ↦ inr at_sink
    ];
    load = is.joined.load;
  };
}

-- a row and a pair below the wire
record Below : Type 0 where
  row : ℕ
  pair : Pair

abbrev IsBelow : (p : Problem) → List Width → PairSets → Bool → (ℕ → Pair) → ℕ → Below → Type 0
IsBelow p widths In odd pick u b = (b.row < length widths) × (In u odd b.pair × (pick u ≡ carried_by p widths u b.row b.pair))

pub open_from_still : (p : Problem) (widths : List Width) (In : PairSets) (odd : Bool) (fork : Fork) (pick : ℕ → Pair) (x : Pair)
    → IsOpenBy (still p) (Above p widths In) odd fork pick x
    → (below : ℕ → Pair) × (row : ℕ → ℕ) × IsWideOpenBy p widths In odd fork below row x
unfolding still
open_from_still p widths In odd fork pick x is = (
  (λ u. (each u).0.pair),
  (λ u. (each u).0.row),
  record {
    chosen = λ u found. ((each u).1 found).1.0;
    rows = λ u found. ((each u).1 found).0;
    wanted = is.wanted;
    joined = record {
      least = λ u found. omega (arith, ints, is.joined.least u found, still_carried p u (pick u), ap (λ (y : Pair). y.q) ((each u).1 found).1.1);
      in_time = is.joined.in_time;
      met = elim is.joined.met [
        | inl (u, found, e) ↦ inl (u, found, e ∙ still_carried p u (pick u) ∙ ap (λ (y : Pair). y.q) ((each u).1 found).1.1)
        | inr at_sink ↦ inr at_sink
      ];
      load =
          is.joined.load
          ∙ ap (λ k. fork.own + k) (sum_alike_in (λ u. (pick u).c) (λ u. (carried_by p widths u (each u).0.row (each u).0.pair).c) fork.children
          (λ u found. ap (λ (y : Pair). y.c) ((each u).1 found).1.1));
    };
  },
)
  where
    each : (u : ℕ) → (b : Below) × (Contains fork.children u → IsBelow p widths In odd pick u b)
    each =
        choose fork.children (IsBelow p widths In odd pick) (λ u. record { row = 0; pair = pick u }) (λ u found.
        let (i, y, i_n, y_in, e) = is.chosen u found in
        (record { row = i; pair = y }, (i_n, (y_in, e))))

pub opens_still : (p : Problem) (widths : List Width) (In : PairSets) (v : ℕ) (odd : Bool) (x : Pair)
    → IsWideOpen p widths In v odd x ↔ IsOpen (still p) (Above p widths In) v odd x
unfolding still
opens_still p widths In v odd x = (
  (λ (pick, row, is). (
    (λ u. carried_by p widths u (row u) (pick u)),
    subst (λ (fork : Fork). IsOpenBy (still p) (Above p widths In) odd fork (λ u. carried_by p widths u (row u) (pick u)) x) (sym (still_fork p v))
        (open_to_still p widths In odd (whole_fork p v) pick row x is),
  )),
  (λ (pick, is).
      open_from_still p widths In odd (whole_fork p v) pick x
      (subst (λ (fork : Fork). IsOpenBy (still p) (Above p widths In) odd fork pick x) (still_fork p v) is)),
)

pub steps_still : (p : Problem) (widths : List Width) (In : PairSets) (v : ℕ) (odd : Bool) (x : Pair)
    → IsWideStep p widths In v odd x ↔ IsStep (still p) (Above p widths In) v odd x
unfolding still
steps_still p widths In v odd x = (
  (λ (own, y, may, is_open, e). (own, y, may, (opens_still p widths In v (past_cell (rep_of p.reps own) odd) y).0 is_open, e)),
  (λ (own, y, may, is_open, e). (own, y, may, (opens_still p widths In v (past_cell (rep_of p.reps own) odd) y).1 is_open, e)),
)
