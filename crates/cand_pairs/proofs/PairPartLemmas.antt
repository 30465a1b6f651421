-- The pair of a placement at a node, from its pairs at the live children and the node's own cell, and back.
use Rattle.std.proofs.Common.{◌≡◌, ◌⊎◌, ℕ, ◌+◌, ◌*◌, ◌<◌, Bool, true, false, not, ◌&&◌, List, length, refl, sym, ap, ◌∙◌, subst, eqb, cond, arith, inl, inr, ℤ, pos, ◌+ℤ◌, ◌-ℤ◌, ◌≤ℤ◌, Option, Some, None, is_some, slice_index_or}
use Rattle.std.proofs.lemmas.Bool.{cases_eq, and_parts, false≢true, cases_Bool}
use Rattle.std.proofs.lemmas.Int.{ints}
use Rattle.std.specs.List.{Contains, filter, sum_by}
use Rattle.elmore.specs.Cells.{cell_at, cell_delay, is_inverter}
use Rattle.elmore.specs.Delay.{is_odd}
use Rattle.elmore.specs.Laws.{children_of}
use Rattle.elmore.specs.Legal.{IsPlaced, MayHave}
use Rattle.elmore.specs.Pairs.{IsSinkUnder, class_of, IsPairOf, required_from}
use Rattle.elmore.specs.Path.{is_over, nodes as node_numbers}
use Rattle.elmore.specs.Placements.{IsPlacement, IsSinkAt, load_of, input_load_of, delay_between, inverters_between}
use Rattle.elmore.specs.Problems.{is_sink, is_live, sink_of}
use Rattle.elmore.specs.Stage.{seen}
use Rattle.elmore.specs.Trees.{parent_of, resistance}
use Rattle.cand_pairs.specs.Candidates.{live_children, own_capacitance, carried, IsOpenBy, with_cell, past_cell, whole_fork, IsLive}
use Rattle.cand_pairs.specs.Solutions.{pairs_of}
use Rattle.elmore.specs.declared.rep.Rep.{Rep}
use Rattle.elmore.specs.declared.parts.Sink.{Sink}
use Rattle.elmore.specs.declared.pair.Pair.{Pair}
use Rattle.elmore.specs.declared.problem.Problem.{Problem}
use Rattle.elmore.proofs.PathLemmas.{over_self, over_trans}
use Rattle.elmore.proofs.TreeLemmas.{tree_falls}
use Rattle.elmore.proofs.LeastLemmas.{within_sinks}
use Rattle.cand_pairs.proofs.ChildLemmas.{IsChild, IsUnderChild, child_parts, child_from, child_over, over_child, in_filter, filter_parts, in_nodes}
use Rattle.cand_pairs.proofs.ChoiceLemmas.{choose, sum_alike_in, least_in}
use Rattle.cand_pairs.proofs.LiveChildLemmas.{no_cell, live_sees, sink_live, input_load_is, load_live, own_of, delay_child, delay_own, inverters_child, inverters_own}

-- a live child, as a member of the list and by what it is
pub record IsLiveChild (p : Problem) (v u : ℕ) : Type 0 where
  pub child : IsChild p.tree.nodes v u
  pub live : is_live p.tree.nodes p.sinks u ≡ true

pub live_child_parts : (p : Problem) (v u : ℕ) → Contains (live_children p v) u → IsLiveChild p v u
live_child_parts p v u found =
    let (child, live) = filter_parts (λ w. is_live p.tree.nodes p.sinks w) (children_of p.tree.nodes v) u found in
    record { child = child_parts p.tree.nodes v u child; live = live }

pub live_child_from : (p : Problem) (v u : ℕ) → IsLiveChild p v u → Contains (live_children p v) u
live_child_from p v u is =
    in_filter (λ w. is_live p.tree.nodes p.sinks w) (children_of p.tree.nodes v) u (child_from p.tree.nodes v u is.child) is.live

-- a sink at or below a child is at or below its parent
pub sink_over : (p : Problem) (v u w : ℕ) (sink : Sink) → IsChild p.tree.nodes v u → IsSinkUnder p u w sink → IsSinkUnder p v w sink
sink_over p v u w sink child is = record {
  there = is.there;
  under =
      over_trans (parent_of p.tree.nodes) (tree_falls p.tree.nodes p.tree.a_tree) v u w (over_child p.tree.nodes p.tree.a_tree v u child) is.under;
}

pub sink_self : (p : Problem) (v : ℕ) (sink : Sink) → IsSinkAt p v sink → IsSinkUnder p v v sink
sink_self p v sink here = record { there = here; under = over_self (parent_of p.tree.nodes) (tree_falls p.tree.nodes p.tree.a_tree) v }

-- a sink at or below a node is at it, or at or below a live child
pub record IsSinkUnderChild (p : Problem) (v w : ℕ) (sink : Sink) (u : ℕ) : Type 0 where
  pub child : Contains (live_children p v) u
  pub under_child : IsUnderChild p.tree.nodes v w u
  pub under : IsSinkUnder p u w sink

pub sink_cases : (p : Problem) (v w : ℕ) (sink : Sink) → IsSinkUnder p v w sink → (w ≡ v) ⊎ ((u : ℕ) × IsSinkUnderChild p v w sink u)
sink_cases p v w sink is =
    elim (cases_eq w v) [
      | inl e ↦ inl e
      | inr other ↦
          let (u, below) = child_over p.tree.nodes p.tree.a_tree v w is.under other in
          inr (
            u,
            record {
              child = live_child_from p v u (record { child = below.child; live = sink_live p u w sink is.there below.over });
              under_child = below;
              under = record { there = is.there; under = below.over };
            },
          )
    ]

-- polarity: a cell at v turns the class
pub class_past : (o : Option Rep) (odd : Bool) (k : ℕ) → is_odd (class_of odd + (cond (is_inverter o) 1 0 + k)) ≡ is_odd (class_of (past_cell o odd) + k)
class_past None odd k = ap (λ (j : ℕ). is_odd (class_of odd + j)) (omega arith)
class_past (Some rep) odd k = go rep.inverts odd
  where
    go : (inverts odd : Bool) → is_odd (class_of odd + (cond inverts 1 0 + k)) ≡ is_odd (class_of (cond inverts (not odd) odd) + k)
    go true true = ap (λ (j : ℕ). eqb j 1) (omega arith)
    go true false = ap is_odd (omega arith)
    go false odd = ap (λ (j : ℕ). is_odd (class_of odd + j)) (omega arith)

class_odd : (odd : Bool) → is_odd (class_of odd + 0) ≡ odd
class_odd true = refl
class_odd false = refl

class_own : (o : Option Rep) (odd : Bool) → is_odd (class_of odd + cond (is_inverter o) 1 0) ≡ past_cell o odd
class_own o odd =
    ap (λ (j : ℕ). is_odd (class_of odd + j)) (omega arith)
    ∙ class_past o odd 0
    ∙ class_odd (past_cell o odd)

-- a pair above a cell
pub with_cell_q : (o : Option Rep) (y : Pair) → (with_cell o y).q ≡ y.q -ℤ pos (cell_delay o y.c)
with_cell_q None y = omega (arith, ints)
with_cell_q (Some rep) y = refl

pub with_cell_c : (o : Option Rep) (y : Pair) → (with_cell o y).c ≡ seen o y.c
with_cell_c None y = refl
with_cell_c (Some rep) y = refl

pub one_pair : (x y : Pair) → x.q ≡ y.q → x.c ≡ y.c → x ≡ y
one_pair x y e f = λ i. record { q = e i; c = f i }

-- the polarity of the sinks at and below v for a signal of the class
abbrev pub AreWantedBelow : Problem → ℕ → Bool → List (Option ℕ) → Type 0
AreWantedBelow p v odd cells = (w : ℕ) (sink : Sink) → IsSinkUnder p v w sink → is_odd (class_of odd + inverters_between p cells v w) ≡ sink.inverted

-- the cell at u, if there is one, may stand there and charge its load
abbrev pub IsFitAt : Problem → List (Option ℕ) → ℕ → Type 0
IsFitAt p cells u = MayHave p u (slice_index_or cells u None) (load_of p cells u)

-- and so at v and below it
abbrev pub AreFit : Problem → ℕ → List (Option ℕ) → Type 0
AreFit p v cells = (u : ℕ) → is_over (parent_of p.tree.nodes) v u ≡ true → IsFitAt p cells u

abbrev required_at : Option Sink → ℤ
required_at None = pos 0
required_at (Some sink) = sink.required

-- a placement with cells only at places, legal at and below a live node, has a pair there if it gives the sinks their
-- polarity
pub pair_exists : (p : Problem) (cells : List (Option ℕ)) (v : ℕ) (odd : Bool) → IsPlacement p cells → IsPlaced p cells → AreWantedBelow p v odd cells → AreFit p v cells
    → IsLive p v → (x : Pair) × IsPairOf p v odd cells x
pair_exists p cells v odd placement placed wanted fits live =
    elim (least_in left under) [
      | inl none ↦
          let (w, is) = live_sees p.tree.nodes p.sinks v live in
          absurd (none w (in_filter test (node_numbers (length p.tree.nodes)) w (in_nodes (length p.tree.nodes) w is.node) (rw (is.sink, is.over) refl)))
      | inr (q, is) ↦ (
        record { q = q; c = input_load_of p cells v },
        record {
          placement = placement;
          placed = placed;
          wanted = wanted;
          least = λ w sink at. rw (← left_is w sink at.there) (is.least w (found w sink at));
          met =
              let (w, in_list, e) = is.met in
              let (is_sink, over) = and_parts (is_sink p.sinks w) (is_over (parent_of p.tree.nodes) v w) (filter_parts test (node_numbers (length p.tree.nodes)) w in_list).1 in
              let (sink, there) = some_of (sink_of p.sinks w) is_sink in
              (w, sink, record { there = there; under = over }, e ∙ left_is w sink there);
          load = refl;
          fits = fits;
        },
      )
    ]
  where
    test : ℕ → Bool
    test w = is_sink p.sinks w && is_over (parent_of p.tree.nodes) v w

    under : List ℕ
    under = filter (λ w. is_sink p.sinks w && is_over (parent_of p.tree.nodes) v w) (node_numbers (length p.tree.nodes))

    left : ℕ → ℤ
    left w = required_at (sink_of p.sinks w) -ℤ pos (delay_between p cells v w)

    left_is : (w : ℕ) (sink : Sink) → IsSinkAt p w sink
        → required_at (sink_of p.sinks w) -ℤ pos (delay_between p cells v w) ≡ required_from p cells v w sink
    left_is w sink here = ap (λ (o : Option Sink). required_at o -ℤ pos (delay_between p cells v w)) here

    found : (w : ℕ) (sink : Sink) → IsSinkUnder p v w sink
        → Contains (filter (λ w. is_sink p.sinks w && is_over (parent_of p.tree.nodes) v w) (node_numbers (length p.tree.nodes))) w
    found w sink at =
        in_filter (λ w. is_sink p.sinks w && is_over (parent_of p.tree.nodes) v w) (node_numbers (length p.tree.nodes)) w
        (in_nodes (length p.tree.nodes) w (omega (arith, within_sinks p.sinks w sink at.there, p.sinks_each)))
        (rw (at.there, at.under) refl)

    some_of : (o : Option Sink) → is_some o ≡ true → (sink : Sink) × (o ≡ Some sink)
    some_of None e = absurd (false≢true e)
    some_of (Some sink) e = (sink, refl)

-- the loads of these pairs at the live children are what is seen of them
loads_of : (p : Problem) (cells : List (Option ℕ)) (v : ℕ) (odd : Bool) (pick : ℕ → Pair) → IsPlaced p cells → v < length p.tree.nodes
    → ((u : ℕ) → Contains (live_children p v) u → IsPairOf p u odd cells (pick u))
    → load_of p cells v ≡ own_capacitance p v + sum_by (λ u. (pick u).c) (live_children p v)
loads_of p cells v odd pick placed v_n chosen =
    omega (
      arith,
      load_live p cells v placed v_n,
      sum_alike_in (λ (u : ℕ). (pick u).c) (input_load_of p cells) (live_children p v) (λ u found. (chosen u found).load),
    )

-- PARTS: the pair of a placement at a node comes from its pairs at the live children
pub record IsMadeOf (p : Problem) (v : ℕ) (odd : Bool) (cells : List (Option ℕ)) (x : Pair) (pick : ℕ → Pair) (y : Pair) : Type 0 where
  pub open_pair : IsOpenBy p (pairs_of p cells) (past_cell (cell_at p.reps cells v) odd) (whole_fork p v) pick y
  pub made : x ≡ with_cell (cell_at p.reps cells v) y
  pub load : y.c ≡ load_of p cells v

pub pair_parts : (p : Problem) (v : ℕ) (odd : Bool) (cells : List (Option ℕ)) (x : Pair) → v < length p.tree.nodes → IsPairOf p v odd cells x
    → (pick : ℕ → Pair) × (y : Pair) × IsMadeOf p v odd cells x pick y
pair_parts p v odd cells x v_n is = (
  pick,
  y,
  record {
    open_pair = record {
      chosen = chosen;
      wanted = λ sink here.
          sym (class_own (cell_at p.reps cells v) odd)
          ∙ ap (λ (j : ℕ). is_odd (class_of odd + j)) (sym (inverters_own p cells v))
          ∙ is.wanted v sink (sink_self p v sink here);
      joined = record {
        least = λ u found. low u found;
        in_time = λ sink here. omega (arith, ints, is.least v sink (sink_self p v sink here), delay_own p cells v);
        met =
            let (w, sink, under, e) = is.met in
            elim (sink_cases p v w sink under) [
              | inl w_v ↦
                  let here : IsSinkAt p v sink = subst (λ (u : ℕ). IsSinkAt p u sink) w_v under.there in
                  inr (sink, here, omega (arith, ints, e, delay_own p cells v, ap (λ (u : ℕ). delay_between p cells v u) w_v))
              | inr (u, at) ↦ inl (
                u,
                at.child,
                omega (
                  arith,
                  ints,
                  e,
                  low u at.child,
                  (chosen u at.child).least w sink at.under,
                  delay_child p cells v u w at.under_child,
                  charged u at.child,
                ),
              )
            ];
        load = loads_of p cells v (past_cell (cell_at p.reps cells v) odd) pick is.placed v_n chosen;
      };
    };
    made =
        one_pair x (with_cell (cell_at p.reps cells v) y)
        (omega (arith, ints, with_cell_q (cell_at p.reps cells v) y))
        (is.load ∙ input_load_is p cells v ∙ sym (with_cell_c (cell_at p.reps cells v) y));
    load = refl;
  },
)
  where
    y : Pair
    y = record { q = x.q +ℤ pos (own_of p cells v); c = load_of p cells v }

    wanted_at : (u : ℕ) → IsLiveChild p v u → AreWantedBelow p u (past_cell (cell_at p.reps cells v) odd) cells
    wanted_at u child w sink under =
        sym (class_past (cell_at p.reps cells v) odd (inverters_between p cells u w))
        ∙ ap (λ (j : ℕ). is_odd (class_of odd + j)) (sym (inverters_child p cells v u w (record { child = child.child; over = under.under })))
        ∙ is.wanted w sink (sink_over p v u w sink child.child under)

    each : (u : ℕ) → (z : Pair) × (Contains (live_children p v) u → IsPairOf p u (past_cell (cell_at p.reps cells v) odd) cells z)
    each =
        choose (live_children p v) (λ u z. IsPairOf p u (past_cell (cell_at p.reps cells v) odd) cells z) (λ _. x) (λ u found.
        let child : IsLiveChild p v u = live_child_parts p v u found in
        pair_exists p cells u (past_cell (cell_at p.reps cells v) odd) is.placement is.placed (wanted_at u child)
        (λ w over. is.fits w (over_trans (parent_of p.tree.nodes) (tree_falls p.tree.nodes p.tree.a_tree) v u w (over_child p.tree.nodes p.tree.a_tree v u child.child) over)) child.live)

    pick : ℕ → Pair
    pick u = (each u).0

    chosen : (u : ℕ) → Contains (live_children p v) u → IsPairOf p u (past_cell (cell_at p.reps cells v) odd) cells (pick u)
    chosen u found = (each u).1 found

    charged : (u : ℕ) → Contains (live_children p v) u → resistance p.tree.nodes u * (pick u).c ≡ resistance p.tree.nodes u * input_load_of p cells u
    charged u found = ap (λ (k : ℕ). resistance p.tree.nodes u * k) (chosen u found).load

    low : (u : ℕ) → Contains (live_children p v) u → y.q ≤ℤ (carried p u (pick u)).q
    low u found =
        let child : IsLiveChild p v u = live_child_parts p v u found in
        let (w, sink, under, e) = (chosen u found).met in
        omega (
          arith,
          ints,
          e,
          is.least w sink (sink_over p v u w sink child.child under),
          delay_child p cells v u w (record { child = child.child; over = under.under }),
          charged u found,
        )

-- WHOLE: and what comes from a placement's pairs at the live children is its pair at the node
pub pair_whole : (p : Problem) (v : ℕ) (odd : Bool) (cells : List (Option ℕ)) (pick : ℕ → Pair) (y : Pair) → v < length p.tree.nodes
    → IsPlacement p cells → IsPlaced p cells → MayHave p v (slice_index_or cells v None) y.c → IsOpenBy p (pairs_of p cells) (past_cell (cell_at p.reps cells v) odd) (whole_fork p v) pick y
    → IsPairOf p v odd cells (with_cell (cell_at p.reps cells v) y)
pair_whole p v odd cells pick y v_n placement placed may is = record {
  placement = placement;
  placed = placed;
  wanted = λ w sink under.
      elim (sink_cases p v w sink under) [
        | inl w_v ↦
            ap (λ (u : ℕ). is_odd (class_of odd + inverters_between p cells v u)) w_v
            ∙ ap (λ (j : ℕ). is_odd (class_of odd + j)) (inverters_own p cells v)
            ∙ class_own (cell_at p.reps cells v) odd
            ∙ is.wanted sink (subst (λ (u : ℕ). IsSinkAt p u sink) w_v under.there)
        | inr (u, at) ↦
            ap (λ (j : ℕ). is_odd (class_of odd + j)) (inverters_child p cells v u w at.under_child)
            ∙ class_past (cell_at p.reps cells v) odd (inverters_between p cells u w)
            ∙ (is.chosen u at.child).wanted w sink at.under
      ];
  least = λ w sink under.
      elim (sink_cases p v w sink under) [
        | inl w_v ↦
            omega (
              arith,
              ints,
              with_cell_q (cell_at p.reps cells v) y,
              is.joined.in_time sink (subst (λ (u : ℕ). IsSinkAt p u sink) w_v under.there),
              ap (λ (u : ℕ). delay_between p cells v u) w_v,
              delay_own p cells v,
              own,
            )
        | inr (u, at) ↦
            omega (
              arith,
              ints,
              with_cell_q (cell_at p.reps cells v) y,
              is.joined.least u at.child,
              (is.chosen u at.child).least w sink at.under,
              delay_child p cells v u w at.under_child,
              charged u at.child,
              own,
            )
      ];
  met = elim is.joined.met [
    | inl (u, found, e) ↦
        let child : IsLiveChild p v u = live_child_parts p v u found in
        let (w, sink, under, met) = (is.chosen u found).met in (
          w,
          sink,
          sink_over p v u w sink child.child under,
          omega (
            arith,
            ints,
            with_cell_q (cell_at p.reps cells v) y,
            e,
            met,
            delay_child p cells v u w (record { child = child.child; over = under.under }),
            charged u found,
            own,
          ),
        )
    | inr (sink, here, e) ↦
        (v, sink, sink_self p v sink here, omega (arith, ints, with_cell_q (cell_at p.reps cells v) y, e, delay_own p cells v, own))
  ];
  load = with_cell_c (cell_at p.reps cells v) y ∙ ap (seen (cell_at p.reps cells v)) loads ∙ sym (input_load_is p cells v);
  fits = λ u over. elim (cases_eq u v) [
    | inl e ↦ subst (IsFitAt p cells) (sym e) (subst (MayHave p v (slice_index_or cells v None)) loads may)
    | inr other ↦
        let (h, below) = child_over p.tree.nodes p.tree.a_tree v u over other in
        elim (cases_Bool (is_live p.tree.nodes p.sinks h)) [
          | inl live ↦ (is.chosen h (live_child_from p v h (record { child = below.child; live = live }))).fits u below.over
          | inr dead ↦ λ b here. absurd (let clash : None ≡ Some b = sym (no_cell p cells h u placed dead below.over) ∙ here in cc)
        ]
  ];
}
  where
    loads : y.c ≡ load_of p cells v
    loads = is.joined.load ∙ sym (loads_of p cells v (past_cell (cell_at p.reps cells v) odd) pick placed v_n is.chosen)

    own : cell_delay (cell_at p.reps cells v) y.c ≡ own_of p cells v
    own = ap (cell_delay (cell_at p.reps cells v)) loads

    charged : (u : ℕ) → Contains (live_children p v) u → resistance p.tree.nodes u * (pick u).c ≡ resistance p.tree.nodes u * input_load_of p cells u
    charged u found = ap (λ (k : ℕ). resistance p.tree.nodes u * k) (is.chosen u found).load
