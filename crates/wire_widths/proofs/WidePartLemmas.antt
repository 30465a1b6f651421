-- The pair of a placement and widths at a node, from its pairs at the live children, the widths of their wires and the node's
-- own cell, and back.
use Rattle.std.proofs.Common.{◌≡◌, ℕ, ◌+◌, ◌*◌, ◌<◌, Bool, true, false, not, ◌&&◌, List, length, refl, sym, ap, ◌∙◌, subst, cond, arith, slice_index_or, inl, inr, ℤ, pos, ◌+ℤ◌, ◌-ℤ◌, ◌≤ℤ◌, Option, Some, None, is_some}
use Rattle.std.proofs.lemmas.Bool.{cases_eq, cases_Bool, and_parts, false≢true}
use Rattle.std.proofs.lemmas.Int.{ints}
use Rattle.std.specs.List.{Contains, filter, sum_by}
use Rattle.elmore.specs.Path.{Falls, is_over, way, nodes as node_numbers}
use Rattle.elmore.specs.Cells.{cell_at, rep_of, cell_delay, is_inverter}
use Rattle.elmore.specs.Stage.{seen}
use Rattle.elmore.specs.Delay.{is_odd}
use Rattle.elmore.specs.Problems.{is_sink, is_live, sink_of}
use Rattle.elmore.specs.Legal.{IsPlaced, MayHave}
use Rattle.elmore.specs.Placements.{IsPlacement, IsSinkAt, inverters_between}
use Rattle.elmore.specs.Trees.{parent_of, resistance, capacitance}
use Rattle.elmore.specs.Wire.{downstream_in}
use Rattle.elmore.specs.Pairs.{IsSinkUnder, class_of}
use Rattle.elmore.specs.Laws.{children_of}
use Rattle.elmore.specs.declared.rep.Rep.{Rep}
use Rattle.elmore.specs.declared.parts.Sink.{Sink}
use Rattle.elmore.specs.declared.pair.Pair.{Pair}
use Rattle.elmore.specs.declared.problem.Problem.{Problem}
use Rattle.elmore.proofs.PathLemmas.{over_trans}
use Rattle.elmore.proofs.TreeLemmas.{tree_falls, tree_of}
use Rattle.elmore.proofs.LeastLemmas.{within_sinks}
use Rattle.elmore.proofs.WayLemmas.{way_sum_self, way_sum_below}
use Rattle.cand_pairs.specs.Candidates.{live_children, dead_children, own_capacitance, with_cell, past_cell, whole_fork, IsLive, PairSets}
use Rattle.cand_pairs.proofs.ChildLemmas.{IsUnderChild, child_over, over_child, in_filter, filter_parts, in_nodes}
use Rattle.cand_pairs.proofs.ChoiceLemmas.{choose, sum_alike_in, sum_of_parts, least_in}
use Rattle.cand_pairs.proofs.LiveChildLemmas.{live_sees, seen_live, no_cell, inverters_child, inverters_own}
use Rattle.cand_pairs.proofs.PairPartLemmas.{IsLiveChild, live_child_parts, live_child_from, sink_over, sink_self, sink_cases, class_past, with_cell_q, with_cell_c, one_pair, AreWantedBelow}
use Rattle.wire_widths.specs.Widths.{plain, width_at, added_by, AreWidths, IsLawful, chosen_at, wire_a, r_of, a_of, wide_load_of, wide_input_load_of, wide_delay_between}
use Rattle.wire_widths.specs.declared.width.Width.{Width}
use Rattle.wire_widths.specs.WidePairs.{wide_required, IsWidePairOf, carried_by, IsWideOpenBy}
use Rattle.wire_widths.proofs.WideLoadLemmas.{wide_children, wide_self, wide_through, wide_parts, wide_step, wide_input_load_near, wide_bare}

class_odd : (odd : Bool) → is_odd (class_of odd + 0) ≡ odd
class_odd true = refl
class_odd false = refl

class_own : (o : Option Rep) (odd : Bool) → is_odd (class_of odd + cond (is_inverter o) 1 0) ≡ past_cell o odd
class_own o odd =
    ap (λ (j : ℕ). is_odd (class_of odd + j)) (omega arith)
    ∙ class_past o odd 0
    ∙ class_odd (past_cell o odd)

-- what is below a dead node is dead
dead_below : (p : Problem) (v u : ℕ) → is_live p.tree.nodes p.sinks v ≡ false → is_over (parent_of p.tree.nodes) v u ≡ true → is_live p.tree.nodes p.sinks u ≡ false
dead_below p v u dead over =
    elim (cases_Bool (is_live p.tree.nodes p.sinks u)) [
      | inr done ↦ done
      | inl live ↦
          let (w, seen) = live_sees p.tree.nodes p.sinks u live in
          absurd (false≢true (sym dead ∙ seen_live p.tree.nodes p.sinks v w (record {
            node = seen.node;
            sink = seen.sink;
            over = over_trans (parent_of p.tree.nodes) (tree_falls p.tree.nodes p.tree.a_tree) v u w over seen.over;
          })))
    ]

-- a dead wire adds nothing
pub plain_adds : (r : ℕ) → added_by plain r ≡ 0
plain_adds r = omega arith

pub dead_adds : (p : Problem) (widths : List Width) (chosen : List ℕ) → AreWidths widths → IsLawful p widths chosen → (u : ℕ)
    → is_live p.tree.nodes p.sinks u ≡ false → a_of p widths chosen u ≡ 0
dead_adds p widths chosen are lawful u dead =
    ap (λ i. added_by (width_at widths i) (resistance p.tree.nodes u)) (lawful.dead u dead)
    ∙ ap (λ (w : Width). added_by w (resistance p.tree.nodes u)) are.first
    ∙ plain_adds (resistance p.tree.nodes u)

dead_wide : (p : Problem) (widths : List Width) (cells : List (Option ℕ)) (chosen : List ℕ) → AreWidths widths → IsLawful p widths chosen → IsPlaced p cells
    → (u : ℕ) → is_live p.tree.nodes p.sinks u ≡ false → wide_input_load_of p widths cells chosen u + a_of p widths chosen u ≡ downstream_in p.tree.nodes u
dead_wide p widths cells chosen are lawful placed u dead =
    omega (
      arith,
      dead_adds p widths chosen are lawful u dead,
      wide_input_load_near (parent_of p.tree.nodes) (r_of p widths chosen) (r_of p widths chosen) (a_of p widths chosen) (λ _. 0) (capacitance p.tree.nodes)
          (cell_at p.reps cells) (λ _. None) (tree_falls p.tree.nodes p.tree.a_tree) (length p.tree.nodes) u
          (record {
            cells = λ w over. ap (rep_of p.reps) (no_cell p cells u w placed dead over);
            wires = λ w over _. refl;
            added = λ w over _. dead_adds p widths chosen are lawful w (dead_below p u w dead over);
          }),
      wide_bare (parent_of p.tree.nodes) (capacitance p.tree.nodes) (length p.tree.nodes) u,
    )

-- THE LOAD: the node's own capacitance, and what is seen of its live children with what their wires add
pub wide_live : (p : Problem) (widths : List Width) (cells : List (Option ℕ)) (chosen : List ℕ) → AreWidths widths → IsLawful p widths chosen → IsPlaced p cells
    → (v : ℕ) → v < length p.tree.nodes
    → wide_load_of p widths cells chosen v
    ≡ own_capacitance p v + sum_by (λ u. wide_input_load_of p widths cells chosen u + a_of p widths chosen u) (live_children p v)
wide_live p widths cells chosen are lawful placed v v_n =
    omega (
      arith,
      wide_children (parent_of p.tree.nodes) (length p.tree.nodes) (tree_of p.tree.nodes p.tree.a_tree) (capacitance p.tree.nodes) (a_of p widths chosen) (cell_at p.reps cells) v v_n,
      sum_of_parts (λ u. wide_input_load_of p widths cells chosen u + a_of p widths chosen u) (λ u. is_live p.tree.nodes p.sinks u) (children_of p.tree.nodes v),
      sum_alike_in (λ u. wide_input_load_of p widths cells chosen u + a_of p widths chosen u) (downstream_in p.tree.nodes) (dead_children p v) (λ u found.
          dead_wide p widths cells chosen are lawful placed u
          (false_of (is_live p.tree.nodes p.sinks u) (filter_parts (λ u. not (is_live p.tree.nodes p.sinks u)) (children_of p.tree.nodes v) u found).1)),
    )
  where
    false_of : (b : Bool) → not b ≡ true → b ≡ false
    false_of true e = absurd (false≢true e)
    false_of false e = refl

-- THE DELAY by way of a child
abbrev pub wide_own : Problem → List Width → List (Option ℕ) → List ℕ → ℕ → ℕ
wide_own p widths cells chosen v = cell_delay (cell_at p.reps cells v) (wide_load_of p widths cells chosen v)

pub wide_child : (p : Problem) (widths : List Width) (cells : List (Option ℕ)) (chosen : List ℕ) (v u w : ℕ) → IsUnderChild p.tree.nodes v w u
    → wide_delay_between p widths cells chosen v w
    ≡ wide_own p widths cells chosen v + (r_of p widths chosen u * (wide_input_load_of p widths cells chosen u + a_of p widths chosen u) + wide_delay_between p widths cells chosen u w)
wide_child p widths cells chosen v u w is =
    omega (
      arith,
      wide_through (parent_of p.tree.nodes) (r_of p widths chosen) (a_of p widths chosen) (capacitance p.tree.nodes) (cell_at p.reps cells) falls (length p.tree.nodes) v u w
          (over_child p.tree.nodes p.tree.a_tree v u is.child) is.over,
      wide_parts (parent_of p.tree.nodes) (r_of p widths chosen) (a_of p widths chosen) (capacitance p.tree.nodes) (cell_at p.reps cells) (length p.tree.nodes) v u,
      way_sum_below (parent_of p.tree.nodes) falls (wide_step (parent_of p.tree.nodes) (r_of p widths chosen) (a_of p widths chosen) (capacitance p.tree.nodes) (cell_at p.reps cells) (length p.tree.nodes)) v u
          (λ e. is.child.other (sym e ∙ is.child.parent)) is.child.other,
      ap (λ x. sum_by (wide_step (parent_of p.tree.nodes) (r_of p widths chosen) (a_of p widths chosen) (capacitance p.tree.nodes) (cell_at p.reps cells) (length p.tree.nodes)) (way (parent_of p.tree.nodes) v x)) is.child.parent,
      way_sum_self (parent_of p.tree.nodes) falls (wide_step (parent_of p.tree.nodes) (r_of p widths chosen) (a_of p widths chosen) (capacitance p.tree.nodes) (cell_at p.reps cells) (length p.tree.nodes)) v,
    )
  where
    falls : Falls (parent_of p.tree.nodes)
    falls = tree_falls p.tree.nodes p.tree.a_tree

pub wide_delay_own : (p : Problem) (widths : List Width) (cells : List (Option ℕ)) (chosen : List ℕ) (v : ℕ)
    → wide_delay_between p widths cells chosen v v ≡ wide_own p widths cells chosen v
wide_delay_own p widths cells chosen v =
    wide_self (parent_of p.tree.nodes) (r_of p widths chosen) (a_of p widths chosen) (capacitance p.tree.nodes) (cell_at p.reps cells)
    (tree_falls p.tree.nodes p.tree.a_tree) (length p.tree.nodes) v

abbrev required_at : Option Sink → ℤ
required_at None = pos 0
required_at (Some sink) = sink.required

-- the cell at u, if there is one, may stand there and charge its load with these widths
abbrev pub IsWideFitAt : Problem → List Width → List (Option ℕ) → List ℕ → ℕ → Type 0
IsWideFitAt p widths cells rows u = MayHave p u (slice_index_or cells u None) (wide_load_of p widths cells rows u)

-- and so at v and below it
abbrev pub AreWideFit : Problem → List Width → ℕ → List (Option ℕ) → List ℕ → Type 0
AreWideFit p widths v cells rows = (u : ℕ) → is_over (parent_of p.tree.nodes) v u ≡ true → IsWideFitAt p widths cells rows u

-- the pairs of one placement with one choice of widths
abbrev pub wide_pairs_of : Problem → List Width → List (Option ℕ) → List ℕ → PairSets
wide_pairs_of p widths cells rows u odd x = IsWidePairOf p widths u odd cells rows x

-- a placement with cells only at places, legal at and below a live node, has a pair there if it gives the sinks their polarity
pub wide_exists : (p : Problem) (widths : List Width) (cells : List (Option ℕ)) (rows : List ℕ) (v : ℕ) (odd : Bool) → IsPlacement p cells → IsPlaced p cells → IsLawful p widths rows → AreWantedBelow p v odd cells → AreWideFit p widths v cells rows
    → IsLive p v → (x : Pair) × IsWidePairOf p widths v odd cells rows x
wide_exists p widths cells rows v odd placement placed lawful wanted fits live =
    elim (least_in left under) [
      | inl none ↦
          let (w, is) = live_sees p.tree.nodes p.sinks v live in
          absurd (none w (in_filter test (node_numbers (length p.tree.nodes)) w (in_nodes (length p.tree.nodes) w is.node) (rw (is.sink, is.over) refl)))
      | inr (q, is) ↦ (
        record { q = q; c = wide_input_load_of p widths cells rows v },
        record {
          placement = placement;
          placed = placed;
          lawful = lawful;
          wanted = wanted;
          least = λ w sink at. rw (← left_is w sink at.there) (is.least w (found w sink at));
          met =
              let (w, in_list, e) = is.met in
              let (is_sink, over) = and_parts (is_sink p.sinks w) (is_over (parent_of p.tree.nodes) v w) (filter_parts test (node_numbers (length p.tree.nodes)) w in_list).1 in
              let (sink, there) = some_of (sink_of p.sinks w) is_sink in
              (w, sink, record { there = there; under = over }, e ∙ left_is w sink there);
          load = refl;
          fits = fits;
        },
      )
    ]
  where
    test : ℕ → Bool
    test w = is_sink p.sinks w && is_over (parent_of p.tree.nodes) v w

    under : List ℕ
    under = filter (λ w. is_sink p.sinks w && is_over (parent_of p.tree.nodes) v w) (node_numbers (length p.tree.nodes))

    left : ℕ → ℤ
    left w = required_at (sink_of p.sinks w) -ℤ pos (wide_delay_between p widths cells rows v w)

    left_is : (w : ℕ) (sink : Sink) → IsSinkAt p w sink
        → required_at (sink_of p.sinks w) -ℤ pos (wide_delay_between p widths cells rows v w) ≡ wide_required p widths cells rows v w sink
    left_is w sink here = ap (λ (o : Option Sink). required_at o -ℤ pos (wide_delay_between p widths cells rows v w)) here

    found : (w : ℕ) (sink : Sink) → IsSinkUnder p v w sink
        → Contains (filter (λ w. is_sink p.sinks w && is_over (parent_of p.tree.nodes) v w) (node_numbers (length p.tree.nodes))) w
    found w sink at =
        in_filter (λ w. is_sink p.sinks w && is_over (parent_of p.tree.nodes) v w) (node_numbers (length p.tree.nodes)) w
        (in_nodes (length p.tree.nodes) w (omega (arith, within_sinks p.sinks w sink at.there, p.sinks_each)))
        (rw (at.there, at.under) refl)

    some_of : (o : Option Sink) → is_some o ≡ true → (sink : Sink) × (o ≡ Some sink)
    some_of None e = absurd (false≢true e)
    some_of (Some sink) e = (sink, refl)

-- the loads of these pairs at the live children are what is seen of them
loads_of : (p : Problem) (widths : List Width) (cells : List (Option ℕ)) (rows : List ℕ) (v : ℕ) (odd : Bool) (pick : ℕ → Pair) (row : ℕ → ℕ)
    → AreWidths widths → IsLawful p widths rows → IsPlaced p cells → v < length p.tree.nodes
    → ((u : ℕ) → Contains (live_children p v) u → IsWidePairOf p widths u odd cells rows (pick u))
    → ((u : ℕ) → Contains (live_children p v) u → row u ≡ chosen_at rows u)
    → wide_load_of p widths cells rows v ≡ own_capacitance p v + sum_by (λ u. (carried_by p widths u (row u) (pick u)).c) (live_children p v)
loads_of p widths cells rows v odd pick row are lawful placed v_n chosen rows_are =
    omega (
      arith,
      wide_live p widths cells rows are lawful placed v v_n,
      sum_alike_in (λ (u : ℕ). (carried_by p widths u (row u) (pick u)).c) (λ u. wide_input_load_of p widths cells rows u + a_of p widths rows u) (live_children p v) (λ u found.
          omega (arith, (chosen u found).load, ap (λ i. wire_a p widths i u) (rows_are u found))),
    )

-- PARTS: the pair of a placement at a node comes from its pairs at the live children
pub record IsMadeOf (p : Problem) (widths : List Width) (v : ℕ) (odd : Bool) (cells : List (Option ℕ)) (rows : List ℕ) (x : Pair) (pick : ℕ → Pair) (y : Pair) : Type 0 where
  pub open_pair : IsWideOpenBy p widths (wide_pairs_of p widths cells rows) (past_cell (cell_at p.reps cells v) odd) (whole_fork p v) pick (chosen_at rows) y
  pub made : x ≡ with_cell (cell_at p.reps cells v) y
  pub load : y.c ≡ wide_load_of p widths cells rows v

pub wide_pair_parts : (p : Problem) (widths : List Width) (v : ℕ) (odd : Bool) (cells : List (Option ℕ)) (rows : List ℕ) (x : Pair) → AreWidths widths
    → v < length p.tree.nodes → IsWidePairOf p widths v odd cells rows x
    → (pick : ℕ → Pair) × (y : Pair) × IsMadeOf p widths v odd cells rows x pick y
wide_pair_parts p widths v odd cells rows x are v_n is = (
  pick,
  y,
  record {
    open_pair = record {
      chosen = chosen;
      rows = λ u found. is.lawful.rows u;
      wanted = λ sink here.
          sym (class_own (cell_at p.reps cells v) odd)
          ∙ ap (λ (j : ℕ). is_odd (class_of odd + j)) (sym (inverters_own p cells v))
          ∙ is.wanted v sink (sink_self p v sink here);
      joined = record {
        least = λ u found. low u found;
        in_time = λ sink here. omega (arith, ints, is.least v sink (sink_self p v sink here), wide_delay_own p widths cells rows v);
        met =
            let (w, sink, under, e) = is.met in
            elim (sink_cases p v w sink under) [
              | inl w_v ↦
                  let here : IsSinkAt p v sink = subst (λ (u : ℕ). IsSinkAt p u sink) w_v under.there in
                  inr (sink, here, omega (arith, ints, e, wide_delay_own p widths cells rows v, ap (λ (u : ℕ). wide_delay_between p widths cells rows v u) w_v))
              | inr (u, at) ↦ inl (
                u,
                at.child,
                omega (
                  arith,
                  ints,
                  e,
                  low u at.child,
                  (chosen u at.child).least w sink at.under,
                  wide_child p widths cells rows v u w at.under_child,
                  charged u at.child,
                ),
              )
            ];
        load = loads_of p widths cells rows v (past_cell (cell_at p.reps cells v) odd) pick (chosen_at rows) are is.lawful is.placed v_n chosen (λ u found. refl);
      };
    };
    made =
        one_pair x (with_cell (cell_at p.reps cells v) y)
        (omega (arith, ints, with_cell_q (cell_at p.reps cells v) y))
        (is.load ∙ sym (with_cell_c (cell_at p.reps cells v) y));
    load = refl;
  },
)
  where
    y : Pair
    y = record { q = x.q +ℤ pos (wide_own p widths cells rows v); c = wide_load_of p widths cells rows v }

    wanted_at : (u : ℕ) → IsLiveChild p v u → AreWantedBelow p u (past_cell (cell_at p.reps cells v) odd) cells
    wanted_at u child w sink under =
        sym (class_past (cell_at p.reps cells v) odd (inverters_between p cells u w))
        ∙ ap (λ (j : ℕ). is_odd (class_of odd + j)) (sym (inverters_child p cells v u w (record { child = child.child; over = under.under })))
        ∙ is.wanted w sink (sink_over p v u w sink child.child under)

    each : (u : ℕ) → (z : Pair) × (Contains (live_children p v) u → IsWidePairOf p widths u (past_cell (cell_at p.reps cells v) odd) cells rows z)
    each =
        choose (live_children p v) (λ u z. IsWidePairOf p widths u (past_cell (cell_at p.reps cells v) odd) cells rows z) (λ _. x) (λ u found.
        let child : IsLiveChild p v u = live_child_parts p v u found in
        wide_exists p widths cells rows u (past_cell (cell_at p.reps cells v) odd) is.placement is.placed is.lawful (wanted_at u child)
        (λ w over. is.fits w (over_trans (parent_of p.tree.nodes) (tree_falls p.tree.nodes p.tree.a_tree) v u w (over_child p.tree.nodes p.tree.a_tree v u child.child) over)) child.live)

    pick : ℕ → Pair
    pick u = (each u).0

    chosen : (u : ℕ) → Contains (live_children p v) u → IsWidePairOf p widths u (past_cell (cell_at p.reps cells v) odd) cells rows (pick u)
    chosen u found = (each u).1 found

    charged : (u : ℕ) → Contains (live_children p v) u
        → r_of p widths rows u * ((pick u).c + a_of p widths rows u) ≡ r_of p widths rows u * (wide_input_load_of p widths cells rows u + a_of p widths rows u)
    charged u found = ap (λ (k : ℕ). r_of p widths rows u * (k + a_of p widths rows u)) (chosen u found).load

    low : (u : ℕ) → Contains (live_children p v) u → y.q ≤ℤ (carried_by p widths u (chosen_at rows u) (pick u)).q
    low u found =
        let child : IsLiveChild p v u = live_child_parts p v u found in
        let (w, sink, under, e) = (chosen u found).met in
        omega (
          arith,
          ints,
          e,
          is.least w sink (sink_over p v u w sink child.child under),
          wide_child p widths cells rows v u w (record { child = child.child; over = under.under }),
          charged u found,
        )

-- WHOLE: and what comes from a placement's pairs at the live children is its pair at the node
pub wide_pair_whole : (p : Problem) (widths : List Width) (v : ℕ) (odd : Bool) (cells : List (Option ℕ)) (rows : List ℕ) (pick : ℕ → Pair) (y : Pair) → AreWidths widths
    → v < length p.tree.nodes → IsPlacement p cells → IsPlaced p cells → IsLawful p widths rows → MayHave p v (slice_index_or cells v None) y.c
    → IsWideOpenBy p widths (wide_pairs_of p widths cells rows) (past_cell (cell_at p.reps cells v) odd) (whole_fork p v) pick (chosen_at rows) y
    → IsWidePairOf p widths v odd cells rows (with_cell (cell_at p.reps cells v) y)
wide_pair_whole p widths v odd cells rows pick y are v_n placement placed lawful may is = record {
  placement = placement;
  placed = placed;
  lawful = lawful;
  wanted = λ w sink under.
      elim (sink_cases p v w sink under) [
        | inl w_v ↦
            ap (λ (u : ℕ). is_odd (class_of odd + inverters_between p cells v u)) w_v
            ∙ ap (λ (j : ℕ). is_odd (class_of odd + j)) (inverters_own p cells v)
            ∙ class_own (cell_at p.reps cells v) odd
            ∙ is.wanted sink (subst (λ (u : ℕ). IsSinkAt p u sink) w_v under.there)
        | inr (u, at) ↦
            ap (λ (j : ℕ). is_odd (class_of odd + j)) (inverters_child p cells v u w at.under_child)
            ∙ class_past (cell_at p.reps cells v) odd (inverters_between p cells u w)
            ∙ (is.chosen u at.child).wanted w sink at.under
      ];
  least = λ w sink under.
      elim (sink_cases p v w sink under) [
        | inl w_v ↦
            omega (
              arith,
              ints,
              with_cell_q (cell_at p.reps cells v) y,
              is.joined.in_time sink (subst (λ (u : ℕ). IsSinkAt p u sink) w_v under.there),
              ap (λ (u : ℕ). wide_delay_between p widths cells rows v u) w_v,
              wide_delay_own p widths cells rows v,
              own,
            )
        | inr (u, at) ↦
            omega (
              arith,
              ints,
              with_cell_q (cell_at p.reps cells v) y,
              is.joined.least u at.child,
              (is.chosen u at.child).least w sink at.under,
              wide_child p widths cells rows v u w at.under_child,
              charged u at.child,
              own,
            )
      ];
  met = elim is.joined.met [
    | inl (u, found, e) ↦
        let child : IsLiveChild p v u = live_child_parts p v u found in
        let (w, sink, under, met) = (is.chosen u found).met in (
          w,
          sink,
          sink_over p v u w sink child.child under,
          omega (
            arith,
            ints,
            with_cell_q (cell_at p.reps cells v) y,
            e,
            met,
            wide_child p widths cells rows v u w (record { child = child.child; over = under.under }),
            charged u found,
            own,
          ),
        )
    | inr (sink, here, e) ↦
        (v, sink, sink_self p v sink here, omega (arith, ints, with_cell_q (cell_at p.reps cells v) y, e, wide_delay_own p widths cells rows v, own))
  ];
  load = with_cell_c (cell_at p.reps cells v) y ∙ ap (seen (cell_at p.reps cells v)) loads;
  fits = λ u over. elim (cases_eq u v) [
    | inl e ↦ subst (IsWideFitAt p widths cells rows) (sym e) (subst (MayHave p v (slice_index_or cells v None)) loads may)
    | inr other ↦
        let (h, below) = child_over p.tree.nodes p.tree.a_tree v u over other in
        elim (cases_Bool (is_live p.tree.nodes p.sinks h)) [
          | inl live ↦ (is.chosen h (live_child_from p v h (record { child = below.child; live = live }))).fits u below.over
          | inr dead ↦ λ b here. absurd (let clash : None ≡ Some b = sym (no_cell p cells h u placed dead below.over) ∙ here in cc)
        ]
  ];
}
  where
    loads : y.c ≡ wide_load_of p widths cells rows v
    loads = is.joined.load ∙ sym (loads_of p widths cells rows v (past_cell (cell_at p.reps cells v) odd) pick (chosen_at rows) are lawful placed v_n is.chosen (λ u found. refl))

    own : cell_delay (cell_at p.reps cells v) y.c ≡ wide_own p widths cells rows v
    own = ap (cell_delay (cell_at p.reps cells v)) loads

    charged : (u : ℕ) → Contains (live_children p v) u
        → r_of p widths rows u * ((pick u).c + a_of p widths rows u) ≡ r_of p widths rows u * (wide_input_load_of p widths cells rows u + a_of p widths rows u)
    charged u found = ap (λ (k : ℕ). r_of p widths rows u * (k + a_of p widths rows u)) (is.chosen u found).load
