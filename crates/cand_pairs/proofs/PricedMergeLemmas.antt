-- The steps of the method with costs, up to a cap.
use Rattle.std.proofs.Common.{◌≡◌, ◌≢◌, ℕ, ◌+◌, Bool, cond, eqb, List, [], ◌∷◌, refl, sym, ap, ◌∙◌, subst, arith, inl, inr, ◌≤ℤ◌, int_lt, Option, None}
use Rattle.std.proofs.lemmas.Bool.{cases_Bool, eq-eqb, ne_eqb}
use Rattle.std.proofs.lemmas.Int.{ints, clamps}
use Rattle.std.proofs.lemmas.List.Sums.{sum_by-cons}
use Rattle.std.specs.List.{Contains, sum_by}
use Rattle.elmore.specs.Cells.{rep_of, cell_cost}
use Rattle.elmore.specs.Pairs.{Dominates}
use Rattle.elmore.specs.Placements.{IsSinkAt}
use Rattle.elmore.specs.Problems.{sink_of}
use Rattle.cand_pairs.specs.Candidates.{carried, IsJoinOf, past_cell, fork_of}
use Rattle.cand_pairs.specs.Merging.{HasEnd, meet, raised}
use Rattle.cand_pairs.specs.Priced.{Priced, Beats, IsPricedOpenWith, IsPricedOpen, with_price, IsPricedStep, IsPricedPart, meet_priced, raise_priced, PricedMeets, PricedFirst, PricedRaises, PricedOwns, IsPricedAt, PricedSets}
use Rattle.elmore.specs.declared.pair.Pair.{Pair}
use Rattle.elmore.specs.declared.problem.Problem.{Problem}
use Rattle.cand_pairs.proofs.ChildLemmas.{in_cons}
use Rattle.cand_pairs.proofs.ChoiceLemmas.{in_list_cases, sum_alike_in}
use Rattle.cand_pairs.proofs.StepLemmas.{join_exists, cell_over, carried_over, over_self, may_less, within_less}
use Rattle.cand_pairs.proofs.MergeLemmas.{join_meet, first_child, first_parts, dominates_meet, sink_alone, sink_parts}
use Rattle.cand_pairs.proofs.PricedLemmas.{beats_trans, one_priced, priced_steps, step_priced}
use Rattle.elmore.specs.declared.parts.Sink.{Sink}

pub part_trans : (cap : Option ℕ) (H G S : Priced → Type 0) → IsPricedPart cap H G → IsPricedPart cap G S → IsPricedPart cap H S
part_trans cap H G S h g = record {
  part = λ z z_in. g.part z (h.part z z_in);
  covers = λ x x_in within.
      let (y, y_in, y_x) = g.covers x x_in within in
      let (z, z_in, z_y) = h.covers y y_in (within_less cap y.cost x.cost y_x.cost within) in
      (z, z_in, beats_trans x y z y_x z_y);
}

beats_self : (a : Priced) → Beats a a
beats_self a = record { cost = omega arith; pair = over_self a.pair }

with_child : ℕ → Priced → (ℕ → Priced) → ℕ → Priced
with_child u z pick w = cond (eqb w u) z (pick w)

with_here : (u : ℕ) (z : Priced) (pick : ℕ → Priced) → with_child u z pick u ≡ z
unfolding with_child
with_here u z pick = rw (eq-eqb u u refl) refl

with_other : (u : ℕ) (z : Priced) (pick : ℕ → Priced) (w : ℕ) → w ≢ u → with_child u z pick w ≡ pick w
unfolding with_child
with_other u z pick w other = rw (ne_eqb w u other) refl

pub priced_more : (p : Problem) (In : PricedSets) (v : ℕ) (odd : Bool) (own : ℕ) (us : List ℕ) (u : ℕ) (x z : Priced)
    → (Contains us u → ⊥) → IsPricedOpenWith p In odd (fork_of v own us) x → In u odd z → IsPricedOpenWith p In odd (fork_of v own (u ∷ us)) (meet_priced p u x z)
priced_more p In v odd own us u x z apart (pick, is) z_in = (
  with_child u z pick,
  record {
    chosen = λ w found. elim (in_list_cases u us w found) [
      | inl e ↦ subst (λ (k : ℕ). In k odd (with_child u z pick k)) e (rw (with_here u z pick) z_in)
      | inr later ↦ rw (old w later) (is.chosen w later)
    ];
    wanted = is.wanted;
    joined = record {
      least = λ w found. elim (in_list_cases u us w found) [
        | inl e ↦
            subst (λ (k : ℕ). (meet x.pair (carried p u z.pair)).q ≤ℤ (carried p k (with_child u z pick k).pair).q) e
            (rw (with_here u z pick) (omega (arith, ints, clamps)))
        | inr later ↦ rw (old w later) (omega (arith, ints, clamps, is.joined.least w later))
      ];
      in_time = λ sink here. omega (arith, ints, clamps, is.joined.in_time sink here);
      met = elim (cases_Bool (int_lt (carried p u z.pair).q x.pair.q)) [
        | inl less ↦ inl (u, (0, omega arith, refl), rw (with_here u z pick) (omega (arith, ints, clamps)))
        | inr more ↦ elim is.joined.met [
          | inl (w, found, e) ↦ inl (w, in_cons u us w found, rw (old w found) (omega (arith, ints, clamps, e)))
          | inr (sink, here, e) ↦ inr (sink, here, omega (arith, ints, clamps, e))
        ]
      ];
      load =
          omega (
            arith,
            is.joined.load,
            sum_by-cons (λ (w : ℕ). (with_child u z pick w).pair.c) u us,
            ap (λ (x : Priced). x.pair.c) (with_here u z pick),
            sum_alike_in (λ (w : ℕ). (with_child u z pick w).pair.c) (λ (w : ℕ). (pick w).pair.c) us (λ w found. ap (λ (x : Priced). x.pair.c) (old w found)),
          );
    };
    cost =
        omega (
          arith,
          is.cost,
          sum_by-cons (λ (w : ℕ). (with_child u z pick w).cost) u us,
          ap (λ (x : Priced). x.cost) (with_here u z pick),
          sum_alike_in (λ (w : ℕ). (with_child u z pick w).cost) (λ (w : ℕ). (pick w).cost) us (λ w found. ap (λ (x : Priced). x.cost) (old w found)),
        );
  },
)
  where
    old : (w : ℕ) → Contains us w → with_child u z pick w ≡ pick w
    old w found = with_other u z pick w (λ e. apart (subst (Contains us) e found))

pub priced_fewer : (p : Problem) (In : PricedSets) (v : ℕ) (odd : Bool) (own : ℕ) (us : List ℕ) (u : ℕ) (a : Priced)
    → HasEnd p v us → IsPricedOpenWith p In odd (fork_of v own (u ∷ us)) a
    → (x : Priced) × (z : Priced) × IsPricedOpenWith p In odd (fork_of v own us) x × In u odd z × (a ≡ meet_priced p u x z)
priced_fewer p In v odd own us u a end (pick, is) =
    let (y, joined) = join_exists p v own us (λ w. (pick w).pair) end in
    let x : Priced = record { cost = sum_by (λ w. (pick w).cost) us; pair = y } in (
      x,
      pick u,
      (pick, record { chosen = λ w found. is.chosen w (in_cons u us w found); wanted = is.wanted; joined = joined; cost = refl }),
      is.chosen u (0, omega arith, refl),
      one_priced a (meet_priced p u x (pick u))
          (omega (arith, is.cost, sum_by-cons (λ (w : ℕ). (pick w).cost) u us))
          (join_meet p v own us u (λ w. (pick w).pair) a.pair y is.joined joined),
    )

pub priced_meets : (p : Problem) (cap : Option ℕ) (In : PricedSets) (v : ℕ) (odd : Bool) (own : ℕ) (us : List ℕ) (u : ℕ) (G H : Priced → Type 0)
    → (Contains us u → ⊥) → HasEnd p v us → IsPricedPart cap G (IsPricedOpenWith p In odd (fork_of v own us)) → IsPricedPart cap H (In u odd)
    → IsPricedPart cap (PricedMeets p u G H) (IsPricedOpenWith p In odd (fork_of v own (u ∷ us)))
priced_meets p cap In v odd own us u G H apart end g h = record {
  part = λ a (x, z, x_in, z_in, a_is).
      subst (IsPricedOpenWith p In odd (fork_of v own (u ∷ us))) (sym a_is) (priced_more p In v odd own us u x z apart (g.part x x_in) (h.part z z_in));
  covers = λ a a_in within.
      let (x, z, x_in, z_in, a_is) = priced_fewer p In v odd own us u a end a_in in
      let sum : a.cost ≡ x.cost + z.cost = ap (λ (t : Priced). t.cost) a_is in
      let (y, y_in, y_x) = g.covers x x_in (within_less cap x.cost a.cost (omega (arith, sum)) within) in
      let (w, w_in, w_z) = h.covers z z_in (within_less cap z.cost a.cost (omega (arith, sum)) within) in (
        meet_priced p u y w,
        (y, w, y_in, w_in, refl),
        subst (Beats (meet_priced p u y w)) (sym a_is) (record {
          cost = omega (arith, y_x.cost, w_z.cost);
          pair =
              dominates_meet y.pair (carried p u w.pair) x.pair (carried p u z.pair) y_x.pair
              (record { time = carried_over p u z.pair w.pair w_z.pair; room = omega (arith, w_z.pair.room) });
        }),
      );
}

pub priced_first : (p : Problem) (cap : Option ℕ) (In : PricedSets) (v : ℕ) (odd : Bool) (own u : ℕ) (H : Priced → Type 0) → sink_of p.sinks v ≡ None
    → IsPricedPart cap H (In u odd) → IsPricedPart cap (PricedFirst p own u H) (IsPricedOpenWith p In odd (fork_of v own (u ∷ [])))
priced_first p cap In v odd own u H none h = record {
  part = λ a (z, z_in, a_is).
      let (pick, is) = first_child p (λ w o x. (w ≡ u) × (x ≡ z.pair)) v odd own u z.pair none (refl, refl) in
      subst (IsPricedOpenWith p In odd (fork_of v own (u ∷ []))) (sym a_is) (
        λ _. z,
        record {
          chosen = λ w found. subst (λ (k : ℕ). In k odd z) (sym (is.chosen w found).0) (h.part z z_in);
          wanted = is.wanted;
          joined = alone z pick is.joined (λ w found. (is.chosen w found).1);
          cost = omega (arith, sum_by-cons (λ (w : ℕ). z.cost) u []);
        },
      );
  covers = λ a (pick, is) within.
      let (z, (z_u, z_is), a_is) = first_parts p (λ w o x. (w ≡ u) × (x ≡ (pick u).pair)) v odd own u a.pair none (
        λ w. (pick w).pair,
        record {
          chosen = λ w found. (one w found, ap (λ (k : ℕ). (pick k).pair) (one w found));
          wanted = is.wanted;
          joined = is.joined;
        },
      ) in
      let (y, y_in, y_z) = h.covers (pick u) (is.chosen u (0, omega arith, refl)) (within_less cap (pick u).cost a.cost (omega (arith, is.cost, sum_by-cons (λ (w : ℕ). (pick w).cost) u [])) within) in (
        record { cost = y.cost; pair = raised own (carried p u y.pair) },
        (y, y_in, refl),
        record {
          cost = omega (arith, y_z.cost, is.cost, sum_by-cons (λ (w : ℕ). (pick w).cost) u []);
          pair = subst (Dominates (raised own (carried p u y.pair))) (sym (a_is ∙ ap (λ (x : Pair). raised own (carried p u x)) z_is)) (record {
            time = omega (arith, ints, carried_over p u (pick u).pair y.pair y_z.pair);
            room = omega (arith, y_z.pair.room);
          });
        },
      );
}
  where
    one : (w : ℕ) → Contains (u ∷ []) w → w ≡ u
    one w found = elim (in_list_cases u [] w found) [
      | inl e ↦ sym e
      | inr (k, k_n, e) ↦ absurd (omega arith)
    ]

    alone : (z : Priced) (pick : ℕ → Pair) → IsJoinOf p (fork_of v own (u ∷ [])) pick (raised own (carried p u z.pair))
        → ((w : ℕ) → Contains (u ∷ []) w → pick w ≡ z.pair) → IsJoinOf p (fork_of v own (u ∷ [])) (λ _. z.pair) (raised own (carried p u z.pair))
    alone z pick is same = record {
      least = λ w found. subst (λ (x : Pair). (raised own (carried p u z.pair)).q ≤ℤ (carried p w x).q) (same w found) (is.least w found);
      in_time = is.in_time;
      met = inl (u, (0, omega arith, refl), refl);
      load = omega (arith, sum_by-cons (λ (w : ℕ). z.pair.c) u []);
    }

pub priced_raises : (p : Problem) (cap : Option ℕ) (In : PricedSets) (v : ℕ) (odd : Bool) (own c : ℕ) (us : List ℕ) (G : Priced → Type 0)
    → IsPricedPart cap G (IsPricedOpenWith p In odd (fork_of v own us)) → IsPricedPart cap (PricedRaises c G) (IsPricedOpenWith p In odd (fork_of v (own + c) us))
priced_raises p cap In v odd own c us G g = record {
  part = λ a (x, x_in, a_is).
      let (pick, is) = g.part x x_in in
      subst (IsPricedOpenWith p In odd (fork_of v (own + c) us)) (sym a_is) (
        pick,
        record {
          chosen = is.chosen;
          wanted = is.wanted;
          joined = record { least = is.joined.least; in_time = is.joined.in_time; met = is.joined.met; load = omega (arith, is.joined.load) };
          cost = is.cost;
        },
      );
  covers = λ a (pick, is) within.
      let x : Priced = record { cost = a.cost; pair = record { q = a.pair.q; c = own + sum_by (λ (u : ℕ). (pick u).pair.c) us } } in
      let (y, y_in, y_x) = g.covers x (
        pick,
        record {
          chosen = is.chosen;
          wanted = is.wanted;
          joined = record { least = is.joined.least; in_time = is.joined.in_time; met = is.joined.met; load = refl };
          cost = is.cost;
        },
      ) within in (
        raise_priced c y,
        (y, y_in, refl),
        record {
          cost = y_x.cost;
          pair = record { time = y_x.pair.time; room = omega (arith, y_x.pair.room, is.joined.load) };
        },
      );
}

pub priced_owns : (p : Problem) (cap : Option ℕ) (In : PricedSets) (v : ℕ) (odd : Bool) (G : Bool → Priced → Type 0)
    → ((o : Bool) → IsPricedPart cap (G o) (IsPricedOpen p In v o)) → IsPricedPart cap (PricedOwns p v odd G) (IsPricedStep p In v odd)
priced_owns p cap In v odd G g = record {
  part = λ a (own, y, may, y_in, a_is). (own, y, may, (g (past_cell (rep_of p.reps own) odd)).part y y_in, a_is);
  covers = λ a (own, x, may, x_in, a_is) within.
      let sum : a.cost ≡ x.cost + cell_cost (rep_of p.reps own) = ap (λ (t : Priced). t.cost) a_is in
      let (y, y_in, y_x) = (g (past_cell (rep_of p.reps own) odd)).covers x x_in (within_less cap x.cost a.cost (omega (arith, sum)) within) in (
        with_price (rep_of p.reps own) y,
        (own, y, may_less p v own y.pair.c x.pair.c y_x.pair.room may, y_in, refl),
        subst (Beats (with_price (rep_of p.reps own) y)) (sym a_is) (record {
          cost = omega (arith, y_x.cost);
          pair = cell_over (rep_of p.reps own) x.pair y.pair y_x.pair;
        }),
      );
}

-- a sink, without children yet
pub priced_sink : (p : Problem) (cap : Option ℕ) (In : PricedSets) (v : ℕ) (odd : Bool) (own : ℕ) (sink : Sink) → IsSinkAt p v sink
    → IsPricedPart cap (λ a. (odd ≡ sink.inverted) × (a ≡ record { cost = 0; pair = record { q = sink.required; c = own } })) (IsPricedOpenWith p In odd (fork_of v own []))
priced_sink p cap In v odd own sink here = record {
  part = λ a (same, a_is).
      let (pick, is) = sink_alone p (λ u o x. ⊥) v own sink here in
      subst (IsPricedOpenWith p In odd (fork_of v own [])) (sym a_is) (
        λ u. record { cost = 0; pair = pick u },
        record {
          chosen = λ u (k, k_n, e). absurd (omega arith);
          wanted = λ other there. same ∙ is.wanted other there;
          joined = is.joined;
          cost = refl;
        },
      );
  covers = λ a (pick, is) within.
      let (same, pair_is) = sink_parts p (λ u o x. ⊥) v odd own sink a.pair here (
        λ u. (pick u).pair,
        record {
          chosen = λ u (k, k_n, e). absurd (omega arith);
          wanted = is.wanted;
          joined = is.joined;
        },
      ) in
      (a, (same, one_priced a (record { cost = 0; pair = record { q = sink.required; c = own } }) is.cost pair_is), beats_self a);
}

-- of all pairs of placements, what comes in is a part of them too
pub kept_part : (p : Problem) (cap : Option ℕ) (v : ℕ) (odd : Bool) (G : Priced → Type 0) → IsPricedPart cap G (IsPricedStep p (IsPricedAt p) v odd)
    → IsPricedPart cap G (IsPricedAt p v odd)
kept_part p cap v odd G g = record {
  part = λ z z_in. step_priced p v odd z (g.part z z_in);
  covers = λ z z_at within. g.covers z (priced_steps p v odd z z_at) within;
}
