-- Divided problems: slacks and good placements.
use Rattle.std.proofs.Common.{◌≡◌, ℕ, ◌+◌, ◌*◌, ◌<◌, ◌≤◌, Bool, true, false, List, refl, sym, ap, ◌∙◌, subst, cond, arith, inl, inr, Option, None, Some, length, slice_index_or, ℤ, pos, ◌+ℤ◌, ◌-ℤ◌, ◌≤ℤ◌}
use Rattle.std.proofs.lemmas.Bool.{cases_lt, cases_Bool}
use Rattle.std.proofs.lemmas.List.{get_or_past}
use Rattle.std.proofs.lemmas.List.FromFn.{get_or-map-range_with_len, length-map-range_with_len}
use Rattle.elmore.specs.Delay.{is_odd}
use Rattle.elmore.specs.Placed.{placed_load, placed_delay, placed_inverters}
use Rattle.elmore.specs.Problems.{sink_of}
use Rattle.elmore.specs.Cells.{rep_at}
use Rattle.elmore.specs.Allowances.{allowed_at, Allows}
use Rattle.elmore.specs.Legal.{IsWithin, IsFit, IsLegal}
use Rattle.elmore.specs.Best.{IsGood, IsBest}
use Rattle.elmore.specs.Placements.{IsSlack, IsSinkAt, slack_at, load_of, delay_between, inverters_between}
use Rattle.elmore.specs.declared.rep.Rep.{Rep}
use Rattle.elmore.specs.declared.parts.Sink.{Sink}
use Rattle.elmore.specs.declared.parts.Driver.{Driver}
use Rattle.elmore.specs.declared.problem.Problem.{Problem}
use Rattle.divided_laws.specs.DividedTrees.{Chains, is_old, AreSameCells, ActsAlike}
use Rattle.divided_laws.specs.DividedProblems.{IsDividedProblem, moved}
use Rattle.divided_laws.proofs.ChainLemmas.{old_at, at_owner}
use Rattle.divided_laws.proofs.DividedDelayLemmas.{acts_alike}

sink_inside : (p : Problem) (w : ℕ) (sink : Sink) → IsSinkAt p w sink → w < length p.tree.nodes
sink_inside p w sink at =
    elim (cases_lt w (length p.tree.nodes)) [
      | inl low ↦ low
      | inr high ↦
          let no_sink : sink_of p.sinks w ≡ None = get_or_past p.sinks w None (omega (arith, p.sinks_each, high)) in
          absurd (let clash : None ≡ Some sink = sym no_sink ∙ at in cc)
    ]

moved_at : (q : Problem) (t : Chains) (cells : List (Option ℕ)) (x : ℕ) → x < length q.tree.nodes
    → slice_index_or (moved q t cells) x None ≡ cond (is_old t x) (slice_index_or cells (t.owner x) None) None
moved_at q t cells x x_m =
    get_or-map-range_with_len (λ y. cond (is_old t y) (slice_index_or cells (t.owner y) None) None) 0
    (length q.tree.nodes) x x None x_m (omega arith)

moved_past : (q : Problem) (t : Chains) (cells : List (Option ℕ)) (x : ℕ) → length q.tree.nodes ≤ x
    → slice_index_or (moved q t cells) x None ≡ None
moved_past q t cells x past =
    get_or_past (moved q t cells) x None
    (omega (
      arith,
      past,
      length-map-range_with_len
          (λ y. cond (is_old t y) (slice_index_or cells (t.owner y) None) None) 0 (length q.tree.nodes),
    ))

pub moved_same : (p q : Problem) (t : Chains) (cells : List (Option ℕ)) → IsDividedProblem p q t
    → AreSameCells p.tree.nodes q.tree.nodes t cells (moved q t cells)
moved_same p q t cells d = record {
  same = λ u u_n.
      moved_at q t cells (t.at u) (d.divided.within u u_n)
      ∙ rw (old_at p.tree.nodes q.tree.nodes t d.divided u u_n, d.divided.owned u u_n) refl;
  none = λ x x_m is. moved_at q t cells x x_m ∙ rw is refl;
}

alike_at : (p q : Problem) (t : Chains) (cells : List (Option ℕ)) → IsDividedProblem p q t → (u : ℕ)
    → u < length p.tree.nodes
    → ActsAlike p.tree.nodes q.tree.nodes t p.reps cells (moved q t cells) u
alike_at p q t cells d u u_n =
    acts_alike p.tree.nodes q.tree.nodes t p.reps cells (moved q t cells) d.divided (moved_same p q t cells d) u u_n

slack_same : (p q : Problem) (t : Chains) (cells : List (Option ℕ)) → IsDividedProblem p q t → (u : ℕ)
    → u < length p.tree.nodes → (sink : Sink)
    → slack_at q (moved q t cells) (t.at u) sink ≡ slack_at p cells u sink
slack_same p q t cells d u u_n sink =
    let delay : delay_between q (moved q t cells) 0 (t.at u) ≡ delay_between p cells 0 u =
    ap (λ reps. placed_delay q.tree.nodes reps (moved q t cells) 0 (t.at u)) d.reps
    ∙ (alike_at p q t cells d u u_n).delay in
    let load : load_of q (moved q t cells) 0 ≡ load_of p cells 0 =
    ap (λ reps. placed_load q.tree.nodes reps (moved q t cells) 0) d.reps
    ∙ ap (placed_load q.tree.nodes p.reps (moved q t cells)) (sym d.divided.root)
    ∙ (alike_at p q t cells d 0 d.divided.old_tree.some_node).load in
    ap (λ (g : Driver). sink.required -ℤ g.arrival -ℤ
    (g.k +ℤ pos (g.r * load_of q (moved q t cells) 0 + delay_between q (moved q t cells) 0 (t.at u)))) d.driver
    ∙ ap (λ y. sink.required -ℤ p.driver.arrival -ℤ
    (p.driver.k +ℤ pos (p.driver.r * y + delay_between q (moved q t cells) 0 (t.at u)))) load
    ∙ ap (λ y. sink.required -ℤ p.driver.arrival -ℤ (p.driver.k +ℤ pos (p.driver.r * load_of p cells 0 + y))) delay

-- a sink of the divided problem stands at an old node
sink_owner : (p q : Problem) (t : Chains) → IsDividedProblem p q t → (w : ℕ) (sink : Sink) → IsSinkAt q w sink
    → (is_old t w ≡ true) × IsSinkAt p (t.owner w) sink
sink_owner p q t d w sink at =
    let w_m : w < length q.tree.nodes = sink_inside q w sink at in
    elim (cases_Bool (is_old t w)) [
      | inl is ↦ (is, sym (d.sinks (t.owner w) (d.divided.owners w w_m)) ∙ ap (sink_of q.sinks) (at_owner t w is) ∙ at)
      | inr is ↦ absurd (let clash : None ≡ Some sink = sym (d.no_sinks w w_m is) ∙ at in cc)
    ]

pub keeps_slack : (p q : Problem) (t : Chains) (cells : List (Option ℕ)) (x : ℤ) → IsDividedProblem p q t
    → IsSlack p cells x → IsSlack q (moved q t cells) x
keeps_slack p q t cells x d s = record {
  least = λ w sink at.
      let (is, at_p) = sink_owner p q t d w sink at in
      let w_n : t.owner w < length p.tree.nodes = sink_inside p (t.owner w) sink at_p in
      let same : slack_at q (moved q t cells) w sink ≡ slack_at p cells (t.owner w) sink =
      ap (λ y. slack_at q (moved q t cells) y sink) (sym (at_owner t w is))
      ∙ slack_same p q t cells d (t.owner w) w_n sink in
      subst (λ z. x ≤ℤ z) (sym same) (s.least (t.owner w) sink at_p);
  met =
      let (u, sink, at, e) = s.met in
      let u_n : u < length p.tree.nodes = sink_inside p u sink at in
      (t.at u, sink, d.sinks u u_n ∙ at, e ∙ sym (slack_same p q t cells d u u_n sink));
}

-- a cell of the moved placement stands at an old node
cell_owner : (p q : Problem) (t : Chains) (cells : List (Option ℕ)) → IsDividedProblem p q t → (w b : ℕ)
    → slice_index_or (moved q t cells) w None ≡ Some b
    → (is_old t w ≡ true) × (t.owner w < length p.tree.nodes) × (slice_index_or cells (t.owner w) None ≡ Some b)
cell_owner p q t cells d w b e =
    elim (cases_lt w (length q.tree.nodes)) [
      | inl w_m ↦
          let own : (k : Bool) → is_old t w ≡ k → cond k (slice_index_or cells (t.owner w) None) None ≡ Some b =
          λ k is.
          sym (moved_at q t cells w w_m ∙ ap (λ y. cond y (slice_index_or cells (t.owner w) None) None) is) ∙ e in
          elim (cases_Bool (is_old t w)) [
            | inl is ↦ (is, d.divided.owners w w_m, own true is)
            | inr is ↦ absurd (let clash : None ≡ Some b = own false is in cc)
          ]
      | inr past ↦ absurd (let clash : None ≡ Some b = sym (moved_past q t cells w past) ∙ e in cc)
    ]

-- what an old node's cell, or the driver, may charge, it may charge in the divided problem
fits_still : (p q : Problem) (t : Chains) → IsDividedProblem p q t → (u b load : ℕ) → u < length p.tree.nodes
    → IsFit (slice_index_or p.places u false) (allowed_at p.allowed u) p.reps b load
    → IsFit (slice_index_or q.places (t.at u) false) (allowed_at q.allowed (t.at u)) q.reps b load
fits_still p q t d u b load u_n f = record {
  at_place = d.places u u_n f.at_place;
  named = omega (arith, f.named, ap (λ (reps : List Rep). length reps) d.reps);
  allows = subst (λ a. Allows a b) (sym (d.allowed u u_n)) f.allows;
  limit = subst (λ (reps : List Rep). IsWithin (rep_at reps b).limit load) (sym d.reps) f.limit;
}

load_same : (p q : Problem) (t : Chains) (cells : List (Option ℕ)) → IsDividedProblem p q t → (u : ℕ)
    → u < length p.tree.nodes
    → load_of q (moved q t cells) (t.at u) ≡ load_of p cells u
load_same p q t cells d u u_n =
    ap (λ reps. placed_load q.tree.nodes reps (moved q t cells) (t.at u)) d.reps ∙ (alike_at p q t cells d u u_n).load

legal_still : (p q : Problem) (t : Chains) (cells : List (Option ℕ)) → IsDividedProblem p q t → IsLegal p cells
    → IsLegal q (moved q t cells)
legal_still p q t cells d legal w = record {
  cell = λ b e.
      let (is, w_n, own) = cell_owner p q t cells d w b e in
      let same : load_of q (moved q t cells) w ≡ load_of p cells (t.owner w) =
      ap (load_of q (moved q t cells)) (sym (at_owner t w is)) ∙ load_same p q t cells d (t.owner w) w_n in
      subst (λ y. IsFit (slice_index_or q.places w false) (allowed_at q.allowed w) q.reps b y) (sym same)
      (subst (λ x. IsFit (slice_index_or q.places x false) (allowed_at q.allowed x) q.reps b
      (load_of p cells (t.owner w))) (at_owner t w is)
      (fits_still p q t d (t.owner w) b (load_of p cells (t.owner w)) w_n ((legal (t.owner w)).cell b own)));
  driver = λ w_0.
      let same : load_of q (moved q t cells) w ≡ load_of p cells 0 =
      ap (load_of q (moved q t cells)) (w_0 ∙ sym d.divided.root)
      ∙ load_same p q t cells d 0 d.divided.old_tree.some_node in
      subst (λ y. IsWithin q.driver.limit y) (sym same)
      (subst (λ (g : Driver). IsWithin g.limit (load_of p cells 0)) (sym d.driver) ((legal 0).driver refl));
}

pub keeps_good : (p q : Problem) (t : Chains) (cells : List (Option ℕ)) → IsDividedProblem p q t → IsGood p cells
    → IsGood q (moved q t cells)
keeps_good p q t cells d g = record {
  placement = record {
    one_each =
        length-map-range_with_len (λ y. cond (is_old t y) (slice_index_or cells (t.owner y) None) None) 0
        (length q.tree.nodes);
    named = λ w b e.
        let (is, w_n, own) = cell_owner p q t cells d w b e in
        omega (arith, g.placement.named (t.owner w) b own, ap (λ (reps : List Rep). length reps) d.reps);
  };
  legal = legal_still p q t cells d g.legal;
  wanted = λ w sink at.
      let (is, at_p) = sink_owner p q t d w sink at in
      let w_n : t.owner w < length p.tree.nodes = sink_inside p (t.owner w) sink at_p in
      let same : inverters_between q (moved q t cells) 0 w ≡ inverters_between p cells 0 (t.owner w) =
      ap (λ reps. placed_inverters q.tree.nodes reps (moved q t cells) 0 w) d.reps
      ∙ ap (placed_inverters q.tree.nodes p.reps (moved q t cells) 0) (sym (at_owner t w is))
      ∙ (alike_at p q t cells d (t.owner w) w_n).inverters in
      ap is_odd same ∙ g.wanted (t.owner w) sink at_p;
}

pub is_no_worse : (p q : Problem) (t : Chains) (cells more : List (Option ℕ)) (x y : ℤ) → IsDividedProblem p q t
    → IsBest p cells x → IsBest q more y → x ≤ℤ y
is_no_worse p q t cells more x y d a b =
    b.most (moved q t cells) x (keeps_good p q t cells d a.good) (keeps_slack p q t cells x d a.slack)
