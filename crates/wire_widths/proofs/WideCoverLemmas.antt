-- Covers with widths, and the root.
use Rattle.std.proofs.Common.{◌≡◌, ◌⊎◌, ℕ, zero, suc, ◌+◌, ◌*◌, ◌<◌, ◌≤◌, Bool, true, false, List, length, slice_index_or, refl, sym, ap, ◌∙◌, subst, arith, inl, inr, ℤ, int_lt, Option, Some, None}
use Rattle.std.proofs.lemmas.Int.{ints}
use Rattle.std.proofs.lemmas.Bool.{cases_Bool, cases_lt, false≢true}
use Rattle.std.proofs.lemmas.List.{get_or_past}
use Rattle.std.proofs.Math.Nat.{mul-le-mul_left}
use Rattle.std.specs.List.{Contains, sum_by}
use Rattle.elmore.specs.Cells.{rep_of}
use Rattle.elmore.specs.Stage.{seen}
use Rattle.elmore.specs.Legal.{IsPlaced, IsWithin}
use Rattle.elmore.specs.Delay.{is_odd}
use Rattle.elmore.specs.Problems.{sink_of}
use Rattle.elmore.specs.Placements.{IsPlacement, IsSinkAt, inverters_between, is_inverted}
use Rattle.elmore.specs.Trees.{parent_of}
use Rattle.elmore.specs.Pairs.{Dominates, IsSinkUnder, class_of}
use Rattle.elmore.specs.declared.parts.Sink.{Sink}
use Rattle.elmore.specs.declared.pair.Pair.{Pair}
use Rattle.elmore.specs.declared.problem.Problem.{Problem}
use Rattle.elmore.proofs.RootLemmas.{root_over}
use Rattle.elmore.proofs.TreeLemmas.{tree_of}
use Rattle.elmore.proofs.LegalLemmas.{legal_placed}
use Rattle.elmore.proofs.LeastLemmas.{within_sinks}
use Rattle.cand_pairs.specs.Candidates.{live_children, with_cell, past_cell, root_value, PairSets, Fork, whole_fork, IsLive, IsCoveredBy, Drives, DrivesNone, IsBoundedBy, at_root}
use Rattle.cand_pairs.specs.Merging.{HasEnd}
use Rattle.cand_pairs.proofs.ChildLemmas.{child_above}
use Rattle.cand_pairs.proofs.LiveChildLemmas.{sink_live}
use Rattle.cand_pairs.proofs.ChoiceLemmas.{choose, sum_le_in, IsLeastIn, least_in}
use Rattle.cand_pairs.proofs.PairPartLemmas.{live_child_parts}
use Rattle.cand_pairs.proofs.StepLemmas.{IsNoWorse, cell_over, over_trans, within_less, may_less}
use Rattle.cand_pairs.proofs.CoverLemmas.{root_live}
use Rattle.wire_widths.specs.Widths.{AreWidths, wire_r, wire_a, wide_load_of, IsWideSlack, IsWideGood, IsWideBest}
use Rattle.wire_widths.specs.declared.width.Width.{Width}
use Rattle.wire_widths.specs.WidePairs.{IsWidePairOf, IsWidePairAt, IsWideJoinOf, IsWideOpen, IsWideStep, IsWideCover, carried_by}
use Rattle.wire_widths.proofs.WidePartLemmas.{IsWideFitAt, AreWideFit, wide_exists}
use Rattle.wire_widths.proofs.WideSpliceLemmas.{wide_steps, wide_within}

has_end : (p : Problem) (widths : List Width) (fork : Fork) (pick : ℕ → Pair) (row : ℕ → ℕ) (x : Pair) → IsWideJoinOf p widths fork pick row x → HasEnd p fork.node fork.children
has_end p widths fork pick row x is =
    elim is.met [
      | inl (u, found, e) ↦ inl (u, found)
      | inr (sink, here, e) ↦ inr (sink, here)
    ]

-- any pairs of the children can be joined under any rows
pub wide_join_exists : (p : Problem) (widths : List Width) (fork : Fork) (pick : ℕ → Pair) (row : ℕ → ℕ) → HasEnd p fork.node fork.children
    → (x : Pair) × IsWideJoinOf p widths fork pick row x
wide_join_exists p widths fork pick row some = go (sink_of p.sinks fork.node) refl (least_in (λ u. (carried_by p widths u (row u) (pick u)).q) fork.children)
  where
    same : (a b : Sink) → sink_of p.sinks fork.node ≡ Some a → IsSinkAt p fork.node b → b.required ≡ a.required
    same a b at_a at_b = let both : Some b ≡ Some a = sym at_b ∙ at_a in let e : b ≡ a = cc (both) in ap (λ (s : Sink). s.required) e

    go : (o : Option Sink) → sink_of p.sinks fork.node ≡ o
        → (((u : ℕ) → Contains fork.children u → ⊥) ⊎ ((q : ℤ) × IsLeastIn (λ u. (carried_by p widths u (row u) (pick u)).q) fork.children q))
        → (x : Pair) × IsWideJoinOf p widths fork pick row x
    go None none (inl empty) =
        elim some [
          | inl (u, found) ↦ absurd (empty u found)
          | inr (sink, here) ↦ absurd (let e : None ≡ Some sink = sym none ∙ here in cc)
        ]
    go None none (inr (q, is)) = (
      record { q = q; c = fork.own + sum_by (λ u. (carried_by p widths u (row u) (pick u)).c) fork.children },
      record {
        least = is.least;
        in_time = λ sink here. absurd (let e : None ≡ Some sink = sym none ∙ here in cc);
        met = inl is.met;
        load = refl;
      },
    )
    go (Some sink) at (inl empty) = (
      record { q = sink.required; c = fork.own + sum_by (λ u. (carried_by p widths u (row u) (pick u)).c) fork.children },
      record {
        least = λ u found. absurd (empty u found);
        in_time = λ other here. omega (arith, ints, same sink other at here);
        met = inr (sink, at, refl);
        load = refl;
      },
    )
    go (Some sink) at (inr (q, is)) =
        elim (cases_Bool (int_lt q sink.required)) [
          | inl less ↦ (
            record { q = q; c = fork.own + sum_by (λ u. (carried_by p widths u (row u) (pick u)).c) fork.children },
            record {
              least = is.least;
              in_time = λ other here. omega (arith, ints, same sink other at here);
              met = inl is.met;
              load = refl;
            },
          )
          | inr more ↦ (
            record { q = sink.required; c = fork.own + sum_by (λ u. (carried_by p widths u (row u) (pick u)).c) fork.children },
            record {
              least = λ u found. omega (arith, ints, is.least u found);
              in_time = λ other here. omega (arith, ints, same sink other at here);
              met = inr (sink, at, refl);
              load = refl;
            },
          )
        ]

-- no worse below a wire is no worse above it
pub carried_over : (p : Problem) (widths : List Width) (u i : ℕ) (x y : Pair) → Dominates y x → Dominates (carried_by p widths u i y) (carried_by p widths u i x)
carried_over p widths u i x y over = record {
  time = omega (arith, ints, over.time, mul-le-mul_left (wire_r p widths i u) (more over.room));
  room = omega (arith, over.room);
}
  where
    more : {a b : ℕ} → a ≤ b → a + wire_a p widths i u ≤ b + wire_a p widths i u
    more le = omega (arith, le)

join_over : (p : Problem) (widths : List Width) (fork : Fork) (pick other : ℕ → Pair) (row : ℕ → ℕ) (x y : Pair)
    → ((u : ℕ) → Contains fork.children u → Dominates (other u) (pick u)) → IsWideJoinOf p widths fork pick row x → IsWideJoinOf p widths fork other row y
    → Dominates y x
join_over p widths fork pick other row x y over x_is y_is = record {
  time = elim y_is.met [
    | inl (u, found, e) ↦ omega (arith, ints, e, x_is.least u found, (carried_over p widths u (row u) (pick u) (other u) (over u found)).time)
    | inr (sink, here, e) ↦ omega (arith, ints, e, x_is.in_time sink here)
  ];
  room =
      omega (
        arith,
        x_is.load,
        y_is.load,
        sum_le_in (λ (u : ℕ). (carried_by p widths u (row u) (other u)).c) (λ (u : ℕ). (carried_by p widths u (row u) (pick u)).c) fork.children
            (λ u found. (carried_over p widths u (row u) (pick u) (other u) (over u found)).room),
      );
}

open_over : (p : Problem) (widths : List Width) (A B : PairSets) (v : ℕ) (odd : Bool) (x : Pair) → IsNoWorse p v A B → IsWideOpen p widths A v odd x
    → (y : Pair) × IsWideOpen p widths B v odd y × Dominates y x
open_over p widths A B v odd x no_worse (pick, row, is) =
    let (y, joined) = wide_join_exists p widths (whole_fork p v) other row (has_end p widths (whole_fork p v) pick row x is.joined) in (
      y,
      (other, row, record { chosen = λ u found. ((each u).1 found).0; rows = is.rows; wanted = is.wanted; joined = joined }),
      join_over p widths (whole_fork p v) pick other row x y (λ u found. ((each u).1 found).1) is.joined joined,
    )
  where
    each : (u : ℕ) → (y : Pair) × (Contains (live_children p v) u → B u odd y × Dominates y (pick u))
    each = choose (live_children p v) (λ u y. B u odd y × Dominates y (pick u)) pick (λ u found.
        let (y, y_in, over) = no_worse u odd (pick u) found (is.chosen u found) in
        (y, (y_in, over)))

    other : ℕ → Pair
    other u = (each u).0

pub wide_step_over : (p : Problem) (widths : List Width) (A B : PairSets) (v : ℕ) (odd : Bool) (x : Pair) → IsNoWorse p v A B → IsWideStep p widths A v odd x
    → (y : Pair) × IsWideStep p widths B v odd y × Dominates y x
wide_step_over p widths A B v odd x no_worse (own, z, may, is_open, x_is) =
    let (y, y_open, over) = open_over p widths A B v (past_cell (rep_of p.reps own) odd) z no_worse is_open in
    (with_cell (rep_of p.reps own) y, (own, y, may_less p v own y.c z.c over.room may, y_open, refl), rw x_is (cell_over (rep_of p.reps own) z y over))

-- THE COVER
pub wide_cover_over : (p : Problem) (widths : List Width) (In : PairSets) → AreWidths widths → IsWideCover p widths In
    → (v : ℕ) (odd : Bool) (x : Pair) → IsWidePairAt p widths v odd x → IsCoveredBy (In v odd) x
wide_cover_over p widths In are cover v = up_to (length p.tree.nodes) v (omega arith)
  where
    live_at : (v : ℕ) (odd : Bool) (x : Pair) → IsWidePairAt p widths v odd x → IsLive p v
    live_at v odd x (cells, rows, is) = let (w, sink, under, e) = is.met in sink_live p v w sink under.there under.under

    inside : (v : ℕ) (odd : Bool) (x : Pair) → IsWidePairAt p widths v odd x → v < length p.tree.nodes
    inside v odd x (cells, rows, is) = wide_within p widths v odd cells rows x is

    up_to : (k v : ℕ) → length p.tree.nodes ≤ v + k → (odd : Bool) (x : Pair) → IsWidePairAt p widths v odd x → IsCoveredBy (In v odd) x
    up_to zero v low odd x is = absurd (omega (arith, inside v odd x is))
    up_to (suc k) v low odd x is =
        let no_worse : IsNoWorse p v (IsWidePairAt p widths) In = λ u o z found at.
        up_to k u (omega (arith, child_above p.tree.nodes p.tree.a_tree v u (live_child_parts p v u found).child)) o z at in
        let (y, y_step, y_x) = wide_step_over p widths (IsWidePairAt p widths) In v odd x no_worse (wide_steps p widths v odd x are is) in
        let (z, z_in, z_y) = cover v (live_at v odd x is) odd y y_step in
        (z, z_in, over_trans x y z y_x z_y)

-- THE ROOT
root_free : (p : Problem) (cells : List (Option ℕ)) → IsPlaced p cells → slice_index_or cells 0 None ≡ None
root_free p cells placed = go (slice_index_or cells 0 None) (placed 0)
  where
    go : (o : Option ℕ) → ((b : ℕ) → o ≡ Some b → slice_index_or p.places 0 false ≡ true) → o ≡ None
    go None at = refl
    go (Some b) at = absurd (false≢true (sym p.places_are.root ∙ at b refl))

root_under : (p : Problem) (w : ℕ) (sink : Sink) → IsSinkAt p w sink → IsSinkUnder p 0 w sink
root_under p w sink here = record {
  there = here;
  under = root_over (parent_of p.tree.nodes) (length p.tree.nodes) (tree_of p.tree.nodes p.tree.a_tree) w (omega (arith, within_sinks p.sinks w sink here, p.sinks_each));
}

root_class : (p : Problem) (cells : List (Option ℕ)) (w : ℕ) → is_odd (class_of false + inverters_between p cells 0 w) ≡ is_inverted p cells w
root_class p cells w =
    let same : 0 + inverters_between p cells 0 w ≡ inverters_between p cells 0 w = omega arith in
    ap is_odd same

-- the driver charges the load of the root's pair
root_load : (p : Problem) (widths : List Width) (cells : List (Option ℕ)) (rows : List ℕ) (x : Pair) → IsWidePairOf p widths 0 false cells rows x
    → x.c ≡ wide_load_of p widths cells rows 0
root_load p widths cells rows x is =
    is.load ∙ ap (λ (o : Option ℕ). seen (rep_of p.reps o) (wide_load_of p widths cells rows 0)) (root_free p cells is.placed)

charged : (p : Problem) (widths : List Width) (cells : List (Option ℕ)) (rows : List ℕ) (x : Pair) → IsWidePairOf p widths 0 false cells rows x
    → p.driver.r * x.c ≡ p.driver.r * wide_load_of p widths cells rows 0
charged p widths cells rows x is = ap (λ (k : ℕ). p.driver.r * k) (root_load p widths cells rows x is)

-- what fits at and below the root fits everywhere
root_fits : (p : Problem) (widths : List Width) (cells : List (Option ℕ)) (rows : List ℕ) → IsPlacement p cells → AreWideFit p widths 0 cells rows
    → (u : ℕ) → IsWideFitAt p widths cells rows u
root_fits p widths cells rows placement fits u = elim (cases_lt u (length p.tree.nodes)) [
  | inl low ↦ fits u (root_over (parent_of p.tree.nodes) (length p.tree.nodes) (tree_of p.tree.nodes p.tree.a_tree) u low)
  | inr high ↦ λ b here. absurd (let clash : None ≡ Some b = sym (get_or_past cells u None (omega (arith, placement.one_each))) ∙ here in cc)
]

-- the even pairs at the root that the driver may charge are those of good placements and widths
pub wide_good : (p : Problem) (widths : List Width) (cells : List (Option ℕ)) (rows : List ℕ) (x : Pair) → IsWidePairOf p widths 0 false cells rows x → Drives p x
    → IsWideGood p widths cells rows
wide_good p widths cells rows x is drives = record {
  placement = is.placement;
  lawful = is.lawful;
  legal = λ u. record {
    cell = root_fits p widths cells rows is.placement is.fits u;
    driver = λ e.
        subst (λ (k : ℕ). IsWithin p.driver.limit (wide_load_of p widths cells rows k)) (sym e)
        (subst (IsWithin p.driver.limit) (root_load p widths cells rows x is) drives);
  };
  wanted = λ w sink here. sym (root_class p cells w) ∙ is.wanted w sink (root_under p w sink here);
}

pub wide_slack : (p : Problem) (widths : List Width) (cells : List (Option ℕ)) (rows : List ℕ) (x : Pair) → IsWidePairOf p widths 0 false cells rows x
    → IsWideSlack p widths cells rows (root_value p x)
wide_slack p widths cells rows x is = record {
  least = λ w sink here. omega (arith, ints, is.least w sink (root_under p w sink here), charged p widths cells rows x is);
  met =
      let (w, sink, under, e) = is.met in
      (w, sink, under.there, omega (arith, ints, e, charged p widths cells rows x is));
}

pub wide_root_pair : (p : Problem) (widths : List Width) (cells : List (Option ℕ)) (rows : List ℕ) → IsWideGood p widths cells rows
    → (x : Pair) × IsWidePairOf p widths 0 false cells rows x × Drives p x
wide_root_pair p widths cells rows good =
    let (x, is) = wide_exists p widths cells rows 0 false good.placement (legal_placed p cells (wide_load_of p widths cells rows) good.legal) good.lawful
    (λ w sink under. root_class p cells w ∙ good.wanted w sink under.there) (λ u _. (good.legal u).cell) (root_live p) in
    (x, is, subst (IsWithin p.driver.limit) (sym (root_load p widths cells rows x is)) ((good.legal 0).driver refl))

pub wide_best : (p : Problem) (widths : List Width) (In : PairSets) (cells : List (Option ℕ)) (rows : List ℕ) (x : Pair) → AreWidths widths
    → IsWideCover p widths In → IsWidePairOf p widths 0 false cells rows x → Drives p x → IsBoundedBy p (at_root In) (root_value p x)
    → IsWideBest p widths cells rows (root_value p x)
wide_best p widths In cells rows x are cover is drives most = record {
  good = wide_good p widths cells rows x is drives;
  slack = wide_slack p widths cells rows x is;
  most = λ others other_rows s good slack.
      let (y, at, drive) = wide_root_pair p widths others other_rows good in
      let (z, z_in, over) = wide_cover_over p widths In are cover 0 false y (others, other_rows, at) in
      let (w, sink, here, e) = (wide_slack p widths others other_rows y at).met in
      omega (arith, ints, most z z_in (within_less p.driver.limit z.c y.c over.room drive), slack.least w sink here, e, over.time, mul-le-mul_left p.driver.r over.room);
}

pub wide_none : (p : Problem) (widths : List Width) (In : PairSets) → AreWidths widths → IsWideCover p widths In → DrivesNone p (at_root In)
    → (cells : List (Option ℕ)) (rows : List ℕ) → IsWideGood p widths cells rows → ⊥
wide_none p widths In are cover empty cells rows good =
    let (y, is, drives) = wide_root_pair p widths cells rows good in
    let (z, z_in, over) = wide_cover_over p widths In are cover 0 false y (cells, rows, is) in
    empty z z_in (within_less p.driver.limit z.c y.c over.room drives)
