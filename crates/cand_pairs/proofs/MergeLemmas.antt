-- The steps by which lists of pairs are worked upward keep them undominated: each step is shown for sets of pairs, and
-- a list for a small set G serves for a greater set S that it dominates.
use Rattle.std.proofs.Common.{◌≡◌, ◌≢◌, ℕ, ◌+◌, Bool, cond, eqb, List, [], ◌∷◌, refl, sym, ap, ◌∙◌, subst, arith, inl, inr, ◌≤ℤ◌, int_lt, Some, None}
use Rattle.std.proofs.lemmas.Bool.{cases_Bool, eq-eqb, ne_eqb}
use Rattle.std.proofs.lemmas.Int.{ints, clamps}
use Rattle.std.proofs.lemmas.List.Elements.{All-contains, All-contains_itself}
use Rattle.std.proofs.lemmas.List.Sums.{sum_by-cons}
use Rattle.std.specs.List.{Contains, sum_by, AllPairs}
use Rattle.elmore.specs.Cells.{rep_of}
use Rattle.elmore.specs.Pairs.{Dominates, IsUndominated, IsBelow}
use Rattle.elmore.specs.Placements.{IsSinkAt}
use Rattle.elmore.specs.Problems.{sink_of}
use Rattle.cand_pairs.specs.Candidates.{carried, IsJoinOf, IsOpenWith, IsOpen, with_cell, past_cell, IsStep, PairSets, fork_of}
use Rattle.cand_pairs.specs.Merging.{HasEnd, meet, Meets, Carries, raised, Raises, Owns, AreCoveredBy}
use Rattle.elmore.specs.declared.parts.Sink.{Sink}
use Rattle.elmore.specs.declared.pair.Pair.{Pair}
use Rattle.elmore.specs.declared.problem.Problem.{Problem}
use Rattle.cand_pairs.proofs.ChildLemmas.{in_cons}
use Rattle.cand_pairs.proofs.ChoiceLemmas.{in_list_cases, sum_alike_in}
use Rattle.cand_pairs.proofs.PairPartLemmas.{one_pair}
use Rattle.cand_pairs.proofs.StepLemmas.{join_exists, cell_over, carried_over, over_trans, over_self, may_less}

-- G is a part of S that dominates it all
pub record IsDense (G S : Pair → Type 0) : Type 0 where
  pub part : (z : Pair) → G z → S z
  pub covers : (y : Pair) → S y → (z : Pair) × G z × Dominates z y

pub dense_exact : (G S : Pair → Type 0) (xs : List Pair) → IsDense G S → IsUndominated G xs → IsUndominated S xs
dense_exact G S xs d u = record {
  rising = u.rising;
  taken = λ k e k_n. d.part _ (u.taken k e k_n);
  covers = λ y y_in.
      let (z, z_in, z_y) = d.covers y y_in in
      let (x, x_in, x_z) = u.covers z z_in in
      (x, x_in, over_trans y z x z_y x_z);
}

-- a list for a set is one for the same set, said otherwise
pub same_exact : (G S : Pair → Type 0) (xs : List Pair) → ((z : Pair) → G z → S z) → ((z : Pair) → S z → G z) → IsUndominated G xs → IsUndominated S xs
same_exact G S xs to from u = record { rising = u.rising; taken = λ k d k_n. to _ (u.taken k d k_n); covers = λ y y_in. u.covers y (from y y_in) }

-- a list covers a set where it covers a dense part
pub dense_covered : (G S : Pair → Type 0) (ys : List Pair) → IsDense G S → AreCoveredBy G ys → AreCoveredBy S ys
dense_covered G S ys d covered x x_in =
    let (z, z_in, z_x) = d.covers x x_in in
    let (y, y_in, y_z) = covered z z_in in
    (y, y_in, over_trans x z y z_x y_z)

-- A CHILD MORE: one pair of it, and one of what came before
with_child : ℕ → Pair → (ℕ → Pair) → ℕ → Pair
with_child u z pick w = cond (eqb w u) z (pick w)

with_here : (u : ℕ) (z : Pair) (pick : ℕ → Pair) → with_child u z pick u ≡ z
unfolding with_child
with_here u z pick = rw (eq-eqb u u refl) refl

with_other : (u : ℕ) (z : Pair) (pick : ℕ → Pair) (w : ℕ) → w ≢ u → with_child u z pick w ≡ pick w
unfolding with_child
with_other u z pick w other = rw (ne_eqb w u other) refl

pub more_child : (p : Problem) (In : PairSets) (v : ℕ) (odd : Bool) (own : ℕ) (us : List ℕ) (u : ℕ) (y z : Pair)
    → (Contains us u → ⊥) → IsOpenWith p In odd (fork_of v own us) y → In u odd z → IsOpenWith p In odd (fork_of v own (u ∷ us)) (meet y (carried p u z))
more_child p In v odd own us u y z apart (pick, is) z_in = (
  with_child u z pick,
  record {
    chosen = λ w found. elim (in_list_cases u us w found) [
      | inl e ↦ subst (λ (k : ℕ). In k odd (with_child u z pick k)) e (rw (with_here u z pick) z_in)
      | inr later ↦ rw (old w later) (is.chosen w later)
    ];
    wanted = is.wanted;
    joined = record {
      least = λ w found. elim (in_list_cases u us w found) [
        | inl e ↦
            subst (λ (k : ℕ). (meet y (carried p u z)).q ≤ℤ (carried p k (with_child u z pick k)).q) e
            (rw (with_here u z pick) (omega (arith, ints, clamps)))
        | inr later ↦ rw (old w later) (omega (arith, ints, clamps, is.joined.least w later))
      ];
      in_time = λ sink here. omega (arith, ints, clamps, is.joined.in_time sink here);
      met = elim (cases_Bool (int_lt (carried p u z).q y.q)) [
        | inl less ↦ inl (u, (0, omega arith, refl), rw (with_here u z pick) (omega (arith, ints, clamps)))
        | inr more ↦ elim is.joined.met [
          | inl (w, found, e) ↦ inl (w, in_cons u us w found, rw (old w found) (omega (arith, ints, clamps, e)))
          | inr (sink, here, e) ↦ inr (sink, here, omega (arith, ints, clamps, e))
        ]
      ];
      load =
          omega (
            arith,
            is.joined.load,
            sum_by-cons (λ (w : ℕ). (with_child u z pick w).c) u us,
            ap (λ (x : Pair). x.c) (with_here u z pick),
            sum_alike_in (λ (w : ℕ). (with_child u z pick w).c) (λ (w : ℕ). (pick w).c) us (λ w found. ap (λ (x : Pair). x.c) (old w found)),
          );
    };
  },
)
  where
    old : (w : ℕ) → Contains us w → with_child u z pick w ≡ pick w
    old w found = with_other u z pick w (λ e. apart (subst (Contains us) e found))

pub dominates_meet : (x y a b : Pair) → Dominates x a → Dominates y b → Dominates (meet x y) (meet a b)
dominates_meet x y a b x_a y_b = record {
  time = omega (arith, ints, clamps, x_a.time, y_b.time);
  room = omega (arith, x_a.room, y_b.room);
}

-- a join of one child more is the join of the others and that child's
pub join_meet : (p : Problem) (v own : ℕ) (us : List ℕ) (u : ℕ) (pick : ℕ → Pair) (x y : Pair)
    → IsJoinOf p (fork_of v own (u ∷ us)) pick x → IsJoinOf p (fork_of v own us) pick y → x ≡ meet y (carried p u (pick u))
join_meet p v own us u pick x y is joined =
    one_pair x (meet y (carried p u (pick u)))
    (elim is.met [
      | inl (w, found, e) ↦ elim (in_list_cases u us w found) [
        | inl u_w ↦ omega (arith, ints, clamps, e, low, ap (λ (k : ℕ). (carried p k (pick k)).q) u_w)
        | inr later ↦ omega (arith, ints, clamps, e, low, joined.least w later, is.least u (0, omega arith, refl))
      ]
      | inr (sink, here, e) ↦ omega (arith, ints, clamps, e, low, joined.in_time sink here, is.least u (0, omega arith, refl))
    ])
    (omega (arith, is.load, joined.load, sum_by-cons (λ (w : ℕ). (pick w).c) u us))
  where
    low : x.q ≤ℤ y.q
    low =
        elim joined.met [
          | inl (w, found, e) ↦ omega (arith, ints, e, is.least w (in_cons u us w found))
          | inr (sink, here, e) ↦ omega (arith, ints, e, is.in_time sink here)
        ]

pub fewer_child : (p : Problem) (In : PairSets) (v : ℕ) (odd : Bool) (own : ℕ) (us : List ℕ) (u : ℕ) (x : Pair)
    → HasEnd p v us → IsOpenWith p In odd (fork_of v own (u ∷ us)) x
    → (y : Pair) × (z : Pair) × IsOpenWith p In odd (fork_of v own us) y × In u odd z × (x ≡ meet y (carried p u z))
fewer_child p In v odd own us u x end (pick, is) =
    let (y, joined) = join_exists p v own us pick end in (
      y,
      pick u,
      (pick, record { chosen = λ w found. is.chosen w (in_cons u us w found); wanted = is.wanted; joined = joined }),
      is.chosen u (0, omega arith, refl),
      join_meet p v own us u pick x y is.joined joined,
    )

-- THE FIRST CHILD of a node without a sink
pub first_child : (p : Problem) (In : PairSets) (v : ℕ) (odd : Bool) (own u : ℕ) (z : Pair) → sink_of p.sinks v ≡ None
    → In u odd z → IsOpenWith p In odd (fork_of v own (u ∷ [])) (raised own (carried p u z))
first_child p In v odd own u z none z_in = (
  λ _. z,
  record {
    chosen = λ w found. subst (λ (k : ℕ). In k odd z) (only w found) z_in;
    wanted = λ sink here. absurd (no_sink sink here);
    joined = record {
      least = λ w found. subst (λ (k : ℕ). (raised own (carried p u z)).q ≤ℤ (carried p k z).q) (only w found) (omega (arith, ints));
      in_time = λ sink here. absurd (no_sink sink here);
      met = inl (u, (0, omega arith, refl), refl);
      load = omega (arith, sum_by-cons (λ (w : ℕ). z.c) u []);
    };
  },
)
  where
    no_sink : (sink : Sink) → IsSinkAt p v sink → ⊥
    no_sink sink here = let e : None ≡ Some sink = sym none ∙ here in absurd (cc)

    only : (w : ℕ) → Contains (u ∷ []) w → u ≡ w
    only w found = elim (in_list_cases u [] w found) [
      | inl e ↦ e
      | inr (k, k_n, e) ↦ absurd (omega arith)
    ]

pub first_parts : (p : Problem) (In : PairSets) (v : ℕ) (odd : Bool) (own u : ℕ) (x : Pair) → sink_of p.sinks v ≡ None
    → IsOpenWith p In odd (fork_of v own (u ∷ [])) x → (z : Pair) × In u odd z × (x ≡ raised own (carried p u z))
first_parts p In v odd own u x none (pick, is) = (
  pick u,
  is.chosen u (0, omega arith, refl),
  one_pair x (raised own (carried p u (pick u)))
      (elim is.joined.met [
        | inl (w, found, e) ↦ elim (in_list_cases u [] w found) [
          | inl u_w ↦ e ∙ ap (λ (k : ℕ). (carried p k (pick k)).q) (sym u_w)
          | inr (k, k_n, past) ↦ absurd (omega arith)
        ]
        | inr (sink, here, e) ↦ absurd (let clash : None ≡ Some sink = sym none ∙ here in cc)
      ])
      (omega (arith, is.joined.load, sum_by-cons (λ (w : ℕ). (pick w).c) u [])),
)

-- A SINK, without children yet
pub sink_alone : (p : Problem) (In : PairSets) (v : ℕ) (own : ℕ) (sink : Sink) → IsSinkAt p v sink
    → IsOpenWith p In sink.inverted (fork_of v own []) (record { q = sink.required; c = own })
sink_alone p In v own sink here = (
  λ _. record { q = sink.required; c = own },
  record {
    chosen = λ w (k, k_n, e). absurd (omega arith);
    wanted = λ other there. ap (λ (s : Sink). s.inverted) (one other there);
    joined = record {
      least = λ w (k, k_n, e). absurd (omega arith);
      in_time = λ other there. omega (arith, ints, ap (λ (s : Sink). s.required) (one other there));
      met = inr (sink, here, refl);
      load = omega arith;
    };
  },
)
  where
    one : (other : Sink) → IsSinkAt p v other → sink ≡ other
    one other there = let both : Some sink ≡ Some other = sym here ∙ there in cc (both)

pub sink_parts : (p : Problem) (In : PairSets) (v : ℕ) (odd : Bool) (own : ℕ) (sink : Sink) (x : Pair) → IsSinkAt p v sink
    → IsOpenWith p In odd (fork_of v own []) x → (odd ≡ sink.inverted) × (x ≡ record { q = sink.required; c = own })
sink_parts p In v odd own sink x here (pick, is) = (
  is.wanted sink here,
  one_pair x (record { q = sink.required; c = own })
      (elim is.joined.met [
        | inl (w, (k, k_n, past), e) ↦ absurd (omega arith)
        | inr (other, there, e) ↦
            let both : Some other ≡ Some sink = sym there ∙ here in
            let same : other ≡ sink = cc (both) in
            e ∙ ap (λ (s : Sink). s.required) same
      ])
      (omega (arith, is.joined.load)),
)

-- A DEAD CHILD: more capacitance
pub more_load : (p : Problem) (In : PairSets) (v : ℕ) (odd : Bool) (own c : ℕ) (us : List ℕ) (x : Pair)
    → IsOpenWith p In odd (fork_of v own us) x → IsOpenWith p In odd (fork_of v (own + c) us) (raised c x)
more_load p In v odd own c us x (pick, is) = (
  pick,
  record {
    chosen = is.chosen;
    wanted = is.wanted;
    joined = record { least = is.joined.least; in_time = is.joined.in_time; met = is.joined.met; load = omega (arith, is.joined.load) };
  },
)

pub less_load : (p : Problem) (In : PairSets) (v : ℕ) (odd : Bool) (own c : ℕ) (us : List ℕ) (x : Pair)
    → IsOpenWith p In odd (fork_of v (own + c) us) x → (y : Pair) × IsOpenWith p In odd (fork_of v own us) y × (x ≡ raised c y)
less_load p In v odd own c us x (pick, is) =
    let y : Pair = record { q = x.q; c = own + sum_by (λ (u : ℕ). (pick u).c) us } in (
      y,
      (
        pick,
        record {
          chosen = is.chosen;
          wanted = is.wanted;
          joined = record { least = is.joined.least; in_time = is.joined.in_time; met = is.joined.met; load = refl };
        },
      ),
      one_pair x (raised c y) refl (omega (arith, is.joined.load)),
    )

-- THE STEPS ON LISTS
pub meets_dense : (p : Problem) (In : PairSets) (v : ℕ) (odd : Bool) (own : ℕ) (us : List ℕ) (u : ℕ) (xs ys zs : List Pair)
    → (Contains us u → ⊥) → HasEnd p v us
    → IsUndominated (IsOpenWith p In odd (fork_of v own us)) xs → IsUndominated (In u odd) ys → IsUndominated (Carries p u ys) zs
    → IsDense (Meets xs zs) (IsOpenWith p In odd (fork_of v own (u ∷ us)))
meets_dense p In v odd own us u xs ys zs apart end xs_are ys_are zs_are = record {
  part = λ z (x, s, x_in, s_in, z_is).
      let (y, y_in, s_is) = All-contains (Carries p u ys) zs s zs_are.taken s_in in
      subst (IsOpenWith p In odd (fork_of v own (u ∷ us))) (sym (z_is ∙ ap (meet x) s_is))
      (more_child p In v odd own us u x y apart
      (All-contains (IsOpenWith p In odd (fork_of v own us)) xs x xs_are.taken x_in)
      (All-contains (In u odd) ys y ys_are.taken y_in));
  covers = λ a a_in.
      let (b, z, b_in, z_in, a_is) = fewer_child p In v odd own us u a end a_in in
      let (x, x_in, x_b) = xs_are.covers b b_in in
      let (y, y_in, y_z) = ys_are.covers z z_in in
      let (s, s_in, s_y) = zs_are.covers (carried p u y) (y, y_in, refl) in
      let s_z : Dominates s (carried p u z) = over_trans (carried p u z) (carried p u y) s (wire_over z y y_z) s_y in
      (meet x s, (x, s, x_in, s_in, refl), subst (Dominates (meet x s)) (sym a_is) (dominates_meet x s b (carried p u z) x_b s_z));
}
  where
    wire_over : (z y : Pair) → Dominates y z → Dominates (carried p u y) (carried p u z)
    wire_over z y over = record { time = carried_over p u z y over; room = omega (arith, over.room) }

pub first_dense : (p : Problem) (In : PairSets) (v : ℕ) (odd : Bool) (own u : ℕ) (ys zs : List Pair) → sink_of p.sinks v ≡ None
    → IsUndominated (In u odd) ys → IsUndominated (Carries p u ys) zs
    → IsDense (Raises own zs) (IsOpenWith p In odd (fork_of v own (u ∷ [])))
first_dense p In v odd own u ys zs none ys_are zs_are = record {
  part = λ z (s, s_in, z_is).
      let (y, y_in, s_is) = All-contains (Carries p u ys) zs s zs_are.taken s_in in
      subst (IsOpenWith p In odd (fork_of v own (u ∷ []))) (sym (z_is ∙ ap (raised own) s_is))
      (first_child p In v odd own u y none (All-contains (In u odd) ys y ys_are.taken y_in));
  covers = λ a a_in.
      let (z, z_in, a_is) = first_parts p In v odd own u a none a_in in
      let (y, y_in, y_z) = ys_are.covers z z_in in
      let (s, s_in, s_y) = zs_are.covers (carried p u y) (y, y_in, refl) in (
        raised own s,
        (s, s_in, refl),
        subst (Dominates (raised own s)) (sym a_is) (record {
          time = omega (arith, ints, s_y.time, carried_over p u z y y_z);
          room = omega (arith, s_y.room, y_z.room);
        }),
      );
}

pub raises_dense : (p : Problem) (In : PairSets) (v : ℕ) (odd : Bool) (own c : ℕ) (us : List ℕ) (xs : List Pair)
    → IsUndominated (IsOpenWith p In odd (fork_of v own us)) xs → IsDense (Raises c xs) (IsOpenWith p In odd (fork_of v (own + c) us))
raises_dense p In v odd own c us xs xs_are = record {
  part = λ z (x, x_in, z_is).
      subst (IsOpenWith p In odd (fork_of v (own + c) us)) (sym z_is)
      (more_load p In v odd own c us x (All-contains (IsOpenWith p In odd (fork_of v own us)) xs x xs_are.taken x_in));
  covers = λ a a_in.
      let (b, b_in, a_is) = less_load p In v odd own c us a a_in in
      let (x, x_in, x_b) = xs_are.covers b b_in in
      (raised c x, (x, x_in, refl), subst (Dominates (raised c x)) (sym a_is) (record { time = omega (arith, ints, x_b.time); room = omega (arith, x_b.room) }));
}

pub owns_dense : (p : Problem) (In : PairSets) (v : ℕ) (odd : Bool) (lists : Bool → List Pair)
    → ((o : Bool) → IsUndominated (IsOpen p In v o) (lists o)) → IsDense (Owns p v odd lists) (IsStep p In v odd)
owns_dense p In v odd lists lists_are = record {
  part = λ z (own, y, may, y_in, z_is). (
    own,
    y,
    may,
    All-contains (IsOpen p In v (past_cell (rep_of p.reps own) odd)) (lists (past_cell (rep_of p.reps own) odd)) y
        (lists_are (past_cell (rep_of p.reps own) odd)).taken y_in,
    z_is,
  );
  covers = λ a (own, b, may, b_in, a_is).
      let (y, y_in, y_b) = (lists_are (past_cell (rep_of p.reps own) odd)).covers b b_in in (
        with_cell (rep_of p.reps own) y,
        (own, y, may_less p v own y.c b.c y_b.room may, y_in, refl),
        subst (Dominates (with_cell (rep_of p.reps own) y)) (sym a_is) (cell_over (rep_of p.reps own) b y y_b),
      );
}

-- a list that rises strictly is undominated for its own pairs
pub rising_exact : (xs : List Pair) → AllPairs IsBelow xs → IsUndominated (Contains xs) xs
rising_exact xs rising = record {
  rising = rising;
  taken = All-contains_itself xs;
  covers = λ y y_in. (y, y_in, over_self y);
}
