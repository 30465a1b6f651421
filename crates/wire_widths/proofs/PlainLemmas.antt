-- One width alone: all is as without widths. And the first width everywhere is no worse than none, whatever the others are.
use Rattle.std.proofs.Common.{◌≡◌, ◌↔◌, ℕ, ◌+◌, ◌*◌, ◌<◌, Bool, List, [], ◌∷◌, length, map, max, slice_index_or, refl, sym, ap, ◌∙◌, subst, arith, inl, inr, zero, suc, ℤ, pos, ◌+ℤ◌, ◌-ℤ◌, ◌≤ℤ◌, Option, None}
use Rattle.std.proofs.lemmas.Bool.{cases_lt}
use Rattle.std.proofs.lemmas.List.{get_or_past}
use Rattle.std.proofs.lemmas.List.FromFn.{length-map-range_with_len, get_or-map-range_with_len}
use Rattle.std.specs.List.{filter}
use Rattle.elmore.specs.Path.{way, nodes}
use Rattle.elmore.specs.Cells.{cell_at, cell_delay}
use Rattle.elmore.specs.Stage.{input_load, seen}
use Rattle.elmore.specs.Best.{IsGood, IsBest}
use Rattle.elmore.specs.Legal.{IsLegalAt, MayHave}
use Rattle.elmore.specs.Pairs.{IsPairOf, IsPairAt, required_from}
use Rattle.elmore.specs.Placements.{load_of, input_load_of, delay_between, slack_at, IsSlack}
use Rattle.elmore.specs.Problems.{is_live}
use Rattle.elmore.specs.Trees.{parent_of, resistance, capacitance}
use Rattle.elmore.specs.declared.parts.Sink.{Sink}
use Rattle.elmore.specs.declared.pair.Pair.{Pair}
use Rattle.elmore.specs.declared.problem.Problem.{Problem}
use Rattle.elmore.proofs.SumLemmas.{sum_of_none, sum_of_same}
use Rattle.elmore.proofs.PlacedDelayLemmas.{delay_parts, step_delay}
use Rattle.cand_pairs.specs.Candidates.{carried}
use Rattle.cand_pairs.proofs.PairPartLemmas.{one_pair}
use Rattle.wire_widths.specs.Widths.{IsWidth, plain, width_at, resistance_by, added_by, AreWidths, IsLawful, chosen_at, r_of, a_of, wide_load, wide_load_of, wide_input_load_of, wide_delay_between, wide_slack_at, IsWideSlack, IsWideGood, IsWideBest, is_charged_wire}
use Rattle.wire_widths.specs.Fits.{Fits, most_added}
use Rattle.wire_widths.specs.declared.width.Width.{Width}
use Rattle.wire_widths.specs.WidePairs.{IsWidePairOf, IsWidePairAt, IsNoWorseWith, carried_by, wide_required}
use Rattle.wire_widths.proofs.WideLoadLemmas.{wide_parts, wide_step}

-- each wire has the first width
abbrev pub AreFirst : List ℕ → Type 0
AreFirst rows = (u : ℕ) → chosen_at rows u ≡ 0

abbrev pub first_rows : Problem → List ℕ
first_rows p = map (λ _. 0) (nodes (length p.tree.nodes))

pub rows_first : (p : Problem) → AreFirst (first_rows p)
rows_first p u =
    elim (cases_lt u (length p.tree.nodes)) [
      | inl low ↦ get_or-map-range_with_len (λ _. 0) 0 (length p.tree.nodes) u u 0 low (omega arith)
      | inr high ↦ get_or_past (first_rows p) u 0 (omega (arith, length-map-range_with_len {X = ℕ} (λ _. 0) 0 (length p.tree.nodes)))
    ]

pub first_lawful : (p : Problem) (widths : List Width) → AreWidths widths → IsLawful p widths (first_rows p)
first_lawful p widths are = record {
  one_each = length-map-range_with_len {X = ℕ} (λ _. 0) 0 (length p.tree.nodes);
  rows = λ u. omega (arith, rows_first p u, are.some);
  root = rows_first p 0;
  dead = λ u dead. rows_first p u;
}

-- THE FIRST WIDTH leaves a wire as it is
pub as_it_is : (r : ℕ) → resistance_by plain r ≡ r
as_it_is r = omega arith

pub adds_none : (r : ℕ) → added_by plain r ≡ 0
adds_none r = omega arith

r_first : (p : Problem) (widths : List Width) (rows : List ℕ) → AreWidths widths → AreFirst rows → (u : ℕ) → r_of p widths rows u ≡ resistance p.tree.nodes u
r_first p widths rows are first u =
    ap (λ i. resistance_by (width_at widths i) (resistance p.tree.nodes u)) (first u)
    ∙ ap (λ (w : Width). resistance_by w (resistance p.tree.nodes u)) are.first
    ∙ as_it_is (resistance p.tree.nodes u)

a_first : (p : Problem) (widths : List Width) (rows : List ℕ) → AreWidths widths → AreFirst rows → (u : ℕ) → a_of p widths rows u ≡ 0
a_first p widths rows are first u =
    ap (λ i. added_by (width_at widths i) (resistance p.tree.nodes u)) (first u)
    ∙ ap (λ (w : Width). added_by w (resistance p.tree.nodes u)) are.first
    ∙ adds_none (resistance p.tree.nodes u)

pub load_first : (p : Problem) (widths : List Width) (cells : List (Option ℕ)) (rows : List ℕ) → AreWidths widths → AreFirst rows
    → (v : ℕ) → wide_load_of p widths cells rows v ≡ load_of p cells v
unfolding wide_load
load_first p widths cells rows are first v =
    omega (
      arith,
      sum_of_same (a_of p widths rows) (λ _. 0) (filter (is_charged_wire (parent_of p.tree.nodes) (cell_at p.reps cells) v) (nodes (length p.tree.nodes))) (a_first p widths rows are first),
      sum_of_none (filter (is_charged_wire (parent_of p.tree.nodes) (cell_at p.reps cells) v) (nodes (length p.tree.nodes))),
    )

pub input_first : (p : Problem) (widths : List Width) (cells : List (Option ℕ)) (rows : List ℕ) → AreWidths widths → AreFirst rows
    → (v : ℕ) → wide_input_load_of p widths cells rows v ≡ input_load_of p cells v
unfolding input_load
input_first p widths cells rows are first v = ap (seen (cell_at p.reps cells v)) (load_first p widths cells rows are first v)

pub delay_first : (p : Problem) (widths : List Width) (cells : List (Option ℕ)) (rows : List ℕ) → AreWidths widths → AreFirst rows
    → (v w : ℕ) → wide_delay_between p widths cells rows v w ≡ delay_between p cells v w
unfolding input_load
delay_first p widths cells rows are first v w =
    omega (
      arith,
      wide_parts (parent_of p.tree.nodes) (r_of p widths rows) (a_of p widths rows) (capacitance p.tree.nodes) (cell_at p.reps cells) (length p.tree.nodes) v w,
      delay_parts (parent_of p.tree.nodes) (resistance p.tree.nodes) (capacitance p.tree.nodes) (cell_at p.reps cells) (length p.tree.nodes) v w,
      own v,
      sum_of_same
          (wide_step (parent_of p.tree.nodes) (r_of p widths rows) (a_of p widths rows) (capacitance p.tree.nodes) (cell_at p.reps cells) (length p.tree.nodes))
          (step_delay (parent_of p.tree.nodes) (resistance p.tree.nodes) (capacitance p.tree.nodes) (cell_at p.reps cells) (length p.tree.nodes))
          (way (parent_of p.tree.nodes) v w)
          (λ u. omega (
            arith,
            own u,
            ap (λ k. k * (wide_input_load_of p widths cells rows u + a_of p widths rows u)) (r_first p widths rows are first u),
            ap (λ k. resistance p.tree.nodes u * (wide_input_load_of p widths cells rows u + k)) (a_first p widths rows are first u),
            ap (λ k. resistance p.tree.nodes u * (seen (cell_at p.reps cells u) k + 0)) (load_first p widths cells rows are first u),
            ap (λ k. resistance p.tree.nodes u * k) (more (seen (cell_at p.reps cells u) (load_of p cells u))),
          )),
    )
  where
    more : (k : ℕ) → k + 0 ≡ k
    more k = omega arith

    own : (u : ℕ) → cell_delay (cell_at p.reps cells u) (wide_load_of p widths cells rows u) ≡ cell_delay (cell_at p.reps cells u) (load_of p cells u)
    own u = ap (cell_delay (cell_at p.reps cells u)) (load_first p widths cells rows are first u)

slack_at_first : (p : Problem) (widths : List Width) (cells : List (Option ℕ)) (rows : List ℕ) → AreWidths widths → AreFirst rows
    → (w : ℕ) (sink : Sink) → wide_slack_at p widths cells rows w sink ≡ slack_at p cells w sink
slack_at_first p widths cells rows are first w sink =
    ap (λ k. sink.required -ℤ p.driver.arrival -ℤ (p.driver.k +ℤ pos (p.driver.r * k + wide_delay_between p widths cells rows 0 w))) (load_first p widths cells rows are first 0)
    ∙ ap (λ k. sink.required -ℤ p.driver.arrival -ℤ (p.driver.k +ℤ pos (p.driver.r * load_of p cells 0 + k))) (delay_first p widths cells rows are first 0 w)

-- the same loads, so the same is good
pub first_good : (p : Problem) (widths : List Width) (cells : List (Option ℕ)) → AreWidths widths → IsGood p cells → IsWideGood p widths cells (first_rows p)
first_good p widths cells are good = record {
  placement = good.placement;
  lawful = first_lawful p widths are;
  legal = λ u. subst (λ (load : ℕ → ℕ). IsLegalAt p cells load u) (λ i v. sym (load_first p widths cells (first_rows p) are (rows_first p) v) i) (good.legal u);
  wanted = good.wanted;
}

pub good_first : (p : Problem) (widths : List Width) (cells : List (Option ℕ)) (rows : List ℕ) → AreWidths widths → AreFirst rows
    → IsWideGood p widths cells rows → IsGood p cells
good_first p widths cells rows are first good = record {
  placement = good.placement;
  legal = λ u. subst (λ (load : ℕ → ℕ). IsLegalAt p cells load u) (λ i v. load_first p widths cells rows are first v i) (good.legal u);
  wanted = good.wanted;
}

-- and the same slack
pub slack_first : (p : Problem) (widths : List Width) (cells : List (Option ℕ)) (rows : List ℕ) (x : ℤ) → AreWidths widths → AreFirst rows
    → IsWideSlack p widths cells rows x ↔ IsSlack p cells x
slack_first p widths cells rows x are first = (
  (λ wide. record {
    least = λ w sink at. subst (λ z. x ≤ℤ z) (slack_at_first p widths cells rows are first w sink) (wide.least w sink at);
    met =
        let (w, sink, at, e) = wide.met in
        (w, sink, at, e ∙ slack_at_first p widths cells rows are first w sink);
  }),
  (λ slack. record {
    least = λ w sink at. subst (λ z. x ≤ℤ z) (sym (slack_at_first p widths cells rows are first w sink)) (slack.least w sink at);
    met =
        let (w, sink, at, e) = slack.met in
        (w, sink, at, e ∙ sym (slack_at_first p widths cells rows are first w sink));
  }),
)

-- so widths never make the best slack less
pub wide_no_worse : (p : Problem) (widths : List Width) → AreWidths widths → IsNoWorseWith p widths
wide_no_worse p widths are = record {
  good = λ cells good. (first_rows p, first_good p widths cells are good);
  slack = λ cells others rows x y best wide.
      wide.most cells (first_rows p) x (first_good p widths cells are best.good) ((slack_first p widths cells (first_rows p) x are (rows_first p)).1 best.slack);
}

-- THE PLAIN WIDTH ALONE
pub plain_are : AreWidths (plain ∷ [])
plain_are = record {
  some = omega arith;
  few = omega arith;
  first = refl;
  each = λ k d k_n. only k d k_n;
}
  where
    is_width : IsWidth plain
    is_width = record { some = omega arith; less = omega arith; den = omega arith; add = omega arith }

    only : (k : ℕ) (d : Width) → k < 1 → IsWidth (slice_index_or (plain ∷ []) k d)
    only zero d k_n = is_width
    only (suc k) d k_n = absurd (omega arith)

pub plain_fits : (p : Problem) → Fits p (plain ∷ [])
plain_fits p =
    omega (
      arith,
      p.within.capacitances,
      sum_of_same (λ u. most_added (plain ∷ []) (resistance p.tree.nodes u)) (λ _. 0) (filter (is_live p.tree.nodes p.sinks) (nodes (length p.tree.nodes)))
          (λ u. none (resistance p.tree.nodes u)),
      sum_of_none (filter (is_live p.tree.nodes p.sinks) (nodes (length p.tree.nodes))),
    )
  where
    none : (r : ℕ) → most_added (plain ∷ []) r ≡ 0
    none r = ap (λ a. max a 0) (adds_none r)

-- a lawful choice of one width is the first at each wire
pub lawful_first : (p : Problem) (rows : List ℕ) → IsLawful p (plain ∷ []) rows → AreFirst rows
lawful_first p rows lawful u = omega (arith, lawful.rows u)

pub plain_lawful : (p : Problem) → IsLawful p (plain ∷ []) (first_rows p)
plain_lawful p = first_lawful p (plain ∷ []) plain_are

-- the pairs are those without widths
pub plain_pair : (p : Problem) (v : ℕ) (odd : Bool) (cells : List (Option ℕ)) (rows : List ℕ) (x : Pair)
    → IsWidePairOf p (plain ∷ []) v odd cells rows x → IsPairOf p v odd cells x
plain_pair p v odd cells rows x is = record {
  placement = is.placement;
  placed = is.placed;
  fits = λ u over. subst (MayHave p u (slice_index_or cells u None)) (load_first p (plain ∷ []) cells rows plain_are first u) (is.fits u over);
  wanted = is.wanted;
  least = λ w sink under. subst (λ z. x.q ≤ℤ z) (late w sink) (is.least w sink under);
  met =
      let (w, sink, under, e) = is.met in
      (w, sink, under, e ∙ late w sink);
  load = is.load ∙ input_first p (plain ∷ []) cells rows plain_are first v;
}
  where
    first : AreFirst rows
    first = lawful_first p rows is.lawful

    late : (w : ℕ) (sink : Sink) → wide_required p (plain ∷ []) cells rows v w sink ≡ required_from p cells v w sink
    late w sink = ap (λ k. sink.required -ℤ pos k) (delay_first p (plain ∷ []) cells rows plain_are first v w)

pub pair_plain : (p : Problem) (v : ℕ) (odd : Bool) (cells : List (Option ℕ)) (x : Pair)
    → IsPairOf p v odd cells x → IsWidePairOf p (plain ∷ []) v odd cells (first_rows p) x
pair_plain p v odd cells x is = record {
  placement = is.placement;
  placed = is.placed;
  lawful = plain_lawful p;
  fits = λ u over. subst (MayHave p u (slice_index_or cells u None)) (sym (load_first p (plain ∷ []) cells (first_rows p) plain_are (rows_first p) u)) (is.fits u over);
  wanted = is.wanted;
  least = λ w sink under. subst (λ z. x.q ≤ℤ z) (late w sink) (is.least w sink under);
  met =
      let (w, sink, under, e) = is.met in
      (w, sink, under, e ∙ late w sink);
  load = is.load ∙ sym (input_first p (plain ∷ []) cells (first_rows p) plain_are (rows_first p) v);
}
  where
    late : (w : ℕ) (sink : Sink) → required_from p cells v w sink ≡ wide_required p (plain ∷ []) cells (first_rows p) v w sink
    late w sink = ap (λ k. sink.required -ℤ pos k) (sym (delay_first p (plain ∷ []) cells (first_rows p) plain_are (rows_first p) v w))

pub plain_pairs : (p : Problem) (v : ℕ) (odd : Bool) (x : Pair) → IsWidePairAt p (plain ∷ []) v odd x ↔ IsPairAt p v odd x
plain_pairs p v odd x = (
  (λ (cells, rows, is). (cells, plain_pair p v odd cells rows x is)),
  (λ (cells, is). (cells, first_rows p, pair_plain p v odd cells x is)),
)

-- and so is what is good, its slack, and what is best
pub plain_good : (p : Problem) (cells : List (Option ℕ)) → IsGood p cells → IsWideGood p (plain ∷ []) cells (first_rows p)
plain_good p cells good = first_good p (plain ∷ []) cells plain_are good

pub plain_back : (p : Problem) (cells : List (Option ℕ)) (rows : List ℕ) → IsWideGood p (plain ∷ []) cells rows → IsGood p cells
plain_back p cells rows good = good_first p (plain ∷ []) cells rows plain_are (lawful_first p rows good.lawful) good

pub plain_slack : (p : Problem) (cells : List (Option ℕ)) (rows : List ℕ) (x : ℤ) → IsLawful p (plain ∷ []) rows
    → IsWideSlack p (plain ∷ []) cells rows x ↔ IsSlack p cells x
plain_slack p cells rows x lawful = slack_first p (plain ∷ []) cells rows x plain_are (lawful_first p rows lawful)

pub plain_best : (p : Problem) (cells : List (Option ℕ)) (rows : List ℕ) (x : ℤ) → IsWideBest p (plain ∷ []) cells rows x → IsBest p cells x
plain_best p cells rows x wide = record {
  good = plain_back p cells rows wide.good;
  slack = (plain_slack p cells rows x wide.good.lawful).0 wide.slack;
  most = λ others y good slack.
      wide.most others (first_rows p) y (plain_good p others good) ((plain_slack p others (first_rows p) y (plain_lawful p)).1 slack);
}

pub best_plain : (p : Problem) (cells : List (Option ℕ)) (x : ℤ) → IsBest p cells x → IsWideBest p (plain ∷ []) cells (first_rows p) x
best_plain p cells x best = record {
  good = plain_good p cells best.good;
  slack = (plain_slack p cells (first_rows p) x (plain_lawful p)).1 best.slack;
  most = λ others rows y good slack.
      best.most others y (plain_back p others rows good) ((plain_slack p others rows y good.lawful).0 slack);
}

-- a wire carries a pair as without widths
pub plain_carried : (p : Problem) (u : ℕ) (y : Pair) → u < length p.tree.nodes → carried_by p (plain ∷ []) u 0 y ≡ carried p u y
plain_carried p u y u_n =
    one_pair (carried_by p (plain ∷ []) u 0 y) (carried p u y)
    (ap (λ k. y.q -ℤ pos k) through)
    (omega (arith, adds_none (resistance p.tree.nodes u)))
  where
    same : {a b c d : ℕ} → a ≡ b → c ≡ d → a * c ≡ b * d
    same e f = (λ i. e i * f i)

    through : resistance_by plain (resistance p.tree.nodes u) * (y.c + added_by plain (resistance p.tree.nodes u)) ≡ resistance p.tree.nodes u * y.c
    through = same (as_it_is (resistance p.tree.nodes u)) (omega (arith, adds_none (resistance p.tree.nodes u)))

-- and so does the first of any widths
pub first_carried : (p : Problem) (widths : List Width) (u : ℕ) (y : Pair) → AreWidths widths → carried_by p widths u 0 y ≡ carried p u y
first_carried p widths u y are =
    one_pair (carried_by p widths u 0 y) (carried p u y)
    (ap (λ k. y.q -ℤ pos k) (through ∙ ap (λ k. resistance p.tree.nodes u * k) load))
    load
  where
    r : ℕ
    r = resistance p.tree.nodes u

    added : added_by (width_at widths 0) r ≡ 0
    added = ap (λ (w : Width). added_by w r) are.first ∙ adds_none r

    load : y.c + added_by (width_at widths 0) r ≡ y.c
    load = omega (arith, added)

    through : resistance_by (width_at widths 0) r * (y.c + added_by (width_at widths 0) r) ≡ r * (y.c + added_by (width_at widths 0) r)
    through = ap (λ k. k * (y.c + added_by (width_at widths 0) r)) (ap (λ (w : Width). resistance_by w r) are.first ∙ as_it_is r)

pub plain_without : (p : Problem) (cells : List (Option ℕ)) (x : ℤ) → IsBest p cells x ↔ ((rows : List ℕ) × IsWideBest p (plain ∷ []) cells rows x)
plain_without p cells x = (
  (λ best. (first_rows p, best_plain p cells x best)),
  (λ (rows, wide). plain_best p cells rows x wide),
)
