-- How solutions grow with their pairs.
use Rattle.std.proofs.Common.{◌≡◌, ◌≢◌, ◌⊎◌, ℕ, ◌+◌, ◌<◌, ◌≤◌, Bool, true, List, [], ◌∷◌, length, slice_index_or, refl, sym, ◌∙◌, subst, arith, inl, inr, Option, Some, None}
use Rattle.std.proofs.lemmas.Bool.{cases_eq, cases_lt, eq-eqb, ne_eqb}
use Rattle.std.proofs.lemmas.List.{get_or_past}
use Rattle.std.proofs.lemmas.List.FromFn.{length-map-range_with_len, get_or-map-range_with_len}
use Rattle.std.specs.List.{Contains}
use Rattle.elmore.specs.Cells.{rep_of}
use Rattle.elmore.specs.Legal.{IsPlaced, MayHave}
use Rattle.elmore.specs.Pairs.{IsPairOf}
use Rattle.elmore.specs.Path.{is_over}
use Rattle.elmore.specs.PlacedLaws.{AreAlikeFrom}
use Rattle.elmore.specs.Placements.{IsPlacement, IsSinkAt}
use Rattle.elmore.specs.Problems.{sink_of}
use Rattle.elmore.specs.Trees.{parent_of}
use Rattle.cand_pairs.specs.Candidates.{own_capacitance, carried, IsOpenBy, with_cell, past_cell, fork_of, whole_fork}
use Rattle.cand_pairs.specs.Merging.{meet, raised}
use Rattle.cand_pairs.specs.Solutions.{cells_by, either_of, joined, with_own, IsSolutionOf, IsOpenSolutionOf, pairs_of}
use Rattle.elmore.specs.declared.parts.Sink.{Sink}
use Rattle.elmore.specs.declared.pair.Pair.{Pair}
use Rattle.elmore.specs.declared.problem.Problem.{Problem}
use Rattle.elmore.proofs.PathLemmas.{over_self, over_le, over_trans}
use Rattle.elmore.proofs.TreeLemmas.{tree_falls}
use Rattle.cand_pairs.proofs.ChildLemmas.{IsChild, child_above, over_child, one_child, in_cons}
use Rattle.cand_pairs.proofs.PairPartLemmas.{live_child_parts, pair_whole}
use Rattle.cand_pairs.proofs.SpliceLemmas.{IsSound, pair_alike, join_within, IsPlacedCell}
use Rattle.cand_pairs.proofs.MergeLemmas.{more_child, first_child, sink_alone, more_load}

-- a solution as a placement
pub read_by : (p : Problem) (f : ℕ → Option ℕ) (u : ℕ) → u < length p.tree.nodes → slice_index_or (cells_by p f) u None ≡ f u
read_by p f u u_n = get_or-map-range_with_len f 0 (length p.tree.nodes) u u None u_n (omega arith)

by_length : (p : Problem) (f : ℕ → Option ℕ) → length (cells_by p f) ≡ length p.tree.nodes
by_length p f = length-map-range_with_len f 0 (length p.tree.nodes)

by_past : (p : Problem) (f : ℕ → Option ℕ) (u : ℕ) → length p.tree.nodes ≤ u → slice_index_or (cells_by p f) u None ≡ None
by_past p f u high = get_or_past (cells_by p f) u None (omega (arith, by_length p f))

pub alike_by : (p : Problem) (v : ℕ) (f g : ℕ → Option ℕ) → ((u : ℕ) → is_over (parent_of p.tree.nodes) v u ≡ true → f u ≡ g u)
    → AreAlikeFrom p.tree.nodes v (cells_by p f) (cells_by p g)
alike_by p v f g same u over =
    elim (cases_lt u (length p.tree.nodes)) [
      | inl low ↦ read_by p f u low ∙ same u over ∙ sym (read_by p g u low)
      | inr high ↦ by_past p f u high ∙ sym (by_past p g u high)
    ]

-- a placement with cells only at places has such cells, and solutions of such cells are such placements
pub fits_from : (p : Problem) (f : ℕ → Option ℕ) → IsPlacement p (cells_by p f) → IsPlaced p (cells_by p f) → (u : ℕ) → u < length p.tree.nodes → IsPlacedCell p u (f u)
fits_from p f placement placed u u_n b e = let at : slice_index_or (cells_by p f) u None ≡ Some b = read_by p f u u_n ∙ e in (placed u b at, placement.named u b at)

pub sound_from : (p : Problem) (f : ℕ → Option ℕ) → ((u : ℕ) → u < length p.tree.nodes → IsPlacedCell p u (f u)) → IsSound p (cells_by p f)
sound_from p f fits = record {
  placement = record { one_each = by_length p f; named = λ u b e. (at u b e).1 };
  placed = λ u b e. (at u b e).0;
}
  where
    at : (u : ℕ) → IsPlacedCell p u (slice_index_or (cells_by p f) u None)
    at u = elim (cases_lt u (length p.tree.nodes)) [
      | inl low ↦ subst (IsPlacedCell p u) (sym (read_by p f u low)) (fits u low)
      | inr high ↦ λ b e. absurd (let clash : None ≡ Some b = sym (by_past p f u high) ∙ e in cc)
    ]

either_right : (a b : Option ℕ) → a ≡ None → either_of a b ≡ b
either_right a b e = rw e refl

either_left : (a b : Option ℕ) → b ≡ None → either_of a b ≡ a
either_left None b e = e
either_left (Some x) b e = refl

none_or : (o : Option ℕ) → ((b : ℕ) → o ≡ Some b → ⊥) → o ≡ None
none_or None never = refl
none_or (Some b) never = absurd (never b refl)

either_fits : (p : Problem) (u : ℕ) (a b : Option ℕ) → IsPlacedCell p u a → IsPlacedCell p u b → IsPlacedCell p u (either_of a b)
either_fits p u None b a_may b_may = b_may
either_fits p u (Some x) b a_may b_may = a_may

either_cases : (a b : Option ℕ) (x : ℕ) → either_of a b ≡ Some x → (a ≡ Some x) ⊎ (b ≡ Some x)
either_cases None b x e = inr e
either_cases (Some a) b x e = inl e

-- ONE MORE CHILD
pub solution_more : (p : Problem) (v : ℕ) (odd : Bool) (own : ℕ) (us : List ℕ) (i : ℕ) (f g : ℕ → Option ℕ) (x z : Pair)
    → ((u : ℕ) → Contains us u → IsChild p.tree.nodes v u) → IsChild p.tree.nodes v i → (Contains us i → ⊥)
    → IsOpenSolutionOf p odd (fork_of v own us) f x → IsSolutionOf p i odd g z
    → IsOpenSolutionOf p odd (fork_of v own (i ∷ us)) (joined f g) (meet x (carried p i z))
solution_more p v odd own us i f g x z children child apart f_is g_is = record {
  pair =
      let (pick, is) = f_is.pair in
      more_child p (λ u o y. IsPairOf p u o (cells_by p (joined f g)) y) v odd own us i x z apart (
        pick,
        record {
          chosen = λ u found.
              pair_alike p u odd (cells_by p f) (cells_by p (joined f g)) (pick u) (alike_by p u f (joined f g) (left u found))
              sound.placement sound.placed (is.chosen u found);
          wanted = is.wanted;
          joined = is.joined;
        },
      )
      (pair_alike p i odd (cells_by p g) (cells_by p (joined f g)) z (alike_by p i g (joined f g) right) sound.placement sound.placed g_is.pair);
  placement = sound.placement;
  placed = sound.placed;
  inside = λ u b e. elim (either_cases (f u) (g u) b e) [
    | inl at ↦ let (h, found, over) = f_is.inside u b at in (h, in_cons i us h found, over)
    | inr at ↦ (i, (0, omega arith, refl), g_is.inside u b at)
  ];
}
  where
    sound : IsSound p (cells_by p (joined f g))
    sound =
        sound_from p (joined f g) (λ u u_n.
        either_fits p u (f u) (g u) (fits_from p f f_is.placement f_is.placed u u_n) (fits_from p g g_is.pair.placement g_is.pair.placed u u_n))

    left : (h : ℕ) → Contains us h → (u : ℕ) → is_over (parent_of p.tree.nodes) h u ≡ true → f u ≡ either_of (f u) (g u)
    left h found u over =
        sym (either_left (f u) (g u) (none_or (g u) (λ b e.
        apart (subst (Contains us) (one_child p.tree.nodes p.tree.a_tree v h i u (children h found) child over (g_is.inside u b e)) found))))

    right : (u : ℕ) → is_over (parent_of p.tree.nodes) i u ≡ true → g u ≡ either_of (f u) (g u)
    right u over =
        sym (either_right (f u) (g u) (none_or (f u) (λ b e.
        let (h, found, over_h) = f_is.inside u b e in
        apart (subst (Contains us) (one_child p.tree.nodes p.tree.a_tree v h i u (children h found) child over_h over) found))))

pub solution_first : (p : Problem) (v : ℕ) (odd : Bool) (own i : ℕ) (g : ℕ → Option ℕ) (z : Pair) → sink_of p.sinks v ≡ None
    → IsSolutionOf p i odd g z → IsOpenSolutionOf p odd (fork_of v own (i ∷ [])) g (raised own (carried p i z))
solution_first p v odd own i g z none g_is = record {
  pair = first_child p (λ u o y. IsPairOf p u o (cells_by p g) y) v odd own i z none g_is.pair;
  placement = g_is.pair.placement;
  placed = g_is.pair.placed;
  inside = λ u b e. (i, (0, omega arith, refl), g_is.inside u b e);
}

pub solution_sink : (p : Problem) (v own : ℕ) (sink : Sink) → IsSinkAt p v sink
    → IsOpenSolutionOf p sink.inverted (fork_of v own []) (λ _. None) (record { q = sink.required; c = own })
solution_sink p v own sink here =
    let sound : IsSound p (cells_by p (λ _. None)) = sound_from p (λ _. None) (λ u u_n b e. absurd (cc)) in
    record {
      pair = sink_alone p (λ u o y. IsPairOf p u o (cells_by p (λ _. None)) y) v own sink here;
      placement = sound.placement;
      placed = sound.placed;
      inside = λ u b e. absurd (cc);
    }

pub solution_raised : (p : Problem) (v : ℕ) (odd : Bool) (own c : ℕ) (us : List ℕ) (f : ℕ → Option ℕ) (x : Pair)
    → IsOpenSolutionOf p odd (fork_of v own us) f x → IsOpenSolutionOf p odd (fork_of v (own + c) us) f (raised c x)
solution_raised p v odd own c us f x is = record {
  pair = more_load p (λ u o y. IsPairOf p u o (cells_by p f) y) v odd own c us x is.pair;
  placement = is.placement;
  placed = is.placed;
  inside = is.inside;
}

-- THE NODE'S OWN CELL
with_here : (v : ℕ) (own : Option ℕ) (f : ℕ → Option ℕ) → with_own v own f v ≡ own
with_here v own f = rw (eq-eqb v v refl) refl

with_other : (v : ℕ) (own : Option ℕ) (f : ℕ → Option ℕ) (u : ℕ) → u ≢ v → with_own v own f u ≡ f u
with_other v own f u other = rw (ne_eqb u v other) refl

pub solution_closed : (p : Problem) (v : ℕ) (odd : Bool) (own : Option ℕ) (f : ℕ → Option ℕ) (y : Pair) → MayHave p v own y.c
    → IsOpenSolutionOf p (past_cell (rep_of p.reps own) odd) (whole_fork p v) f y
    → IsSolutionOf p v odd (with_own v own f) (with_cell (rep_of p.reps own) y)
solution_closed p v odd own f y may is = record {
  pair =
      subst (λ (o : Option ℕ). IsPairOf p v odd (cells_by p (with_own v own f)) (with_cell (rep_of p.reps o) y)) here
      (pair_whole p v odd (cells_by p (with_own v own f)) pick y v_n sound.placement sound.placed (λ b e. may b (sym here ∙ e))
      (subst (λ (o : Option ℕ). IsOpenBy p (pairs_of p (cells_by p (with_own v own f))) (past_cell (rep_of p.reps o) odd) (whole_fork p v) pick y) (sym here) is_open));
  inside = λ u b e. elim (cases_eq u v) [
    | inl at ↦ subst (λ (k : ℕ). is_over (parent_of p.tree.nodes) v k ≡ true) (sym at) (over_self (parent_of p.tree.nodes) (tree_falls p.tree.nodes p.tree.a_tree) v)
    | inr other ↦
        let (h, found, over) = is.inside u b (sym (with_other v own f u other) ∙ e) in
        over_trans (parent_of p.tree.nodes) (tree_falls p.tree.nodes p.tree.a_tree) v h u
        (over_child p.tree.nodes p.tree.a_tree v h (live_child_parts p v h found).child) over
  ];
}
  where
    pick : ℕ → Pair
    pick = is.pair.0

    v_n : v < length p.tree.nodes
    v_n = join_within p v (own_capacitance p v) is.pair.0 y is.pair.1.joined

    sound : IsSound p (cells_by p (with_own v own f))
    sound =
        sound_from p (with_own v own f) (λ u u_n. elim (cases_eq u v) [
          | inl at ↦ subst (λ (k : ℕ). IsPlacedCell p k (with_own v own f k)) (sym at) (subst (IsPlacedCell p v) (sym (with_here v own f)) (λ b e. ((may b e).at_place, (may b e).named)))
          | inr other ↦ subst (IsPlacedCell p u) (sym (with_other v own f u other)) (fits_from p f is.placement is.placed u u_n)
        ])

    here : slice_index_or (cells_by p (with_own v own f)) v None ≡ own
    here = read_by p (with_own v own f) v v_n ∙ with_here v own f

    is_open : IsOpenBy p (pairs_of p (cells_by p (with_own v own f))) (past_cell (rep_of p.reps own) odd) (whole_fork p v) pick y
    is_open = record {
      chosen = λ u found.
          pair_alike p u (past_cell (rep_of p.reps own) odd) (cells_by p f) (cells_by p (with_own v own f)) (pick u)
          (alike_by p u f (with_own v own f) (λ w over. sym (with_other v own f w (λ e.
          omega (
            arith,
            child_above p.tree.nodes p.tree.a_tree v u (live_child_parts p v u found).child,
            over_le (parent_of p.tree.nodes) (tree_falls p.tree.nodes p.tree.a_tree) u w over,
          )))))
          sound.placement sound.placed (is.pair.1.chosen u found);
      wanted = is.pair.1.wanted;
      joined = is.pair.1.joined;
    }

-- and without one the solution stays as it is
pub solution_bare : (p : Problem) (v : ℕ) (odd : Bool) (f : ℕ → Option ℕ) (y : Pair)
    → IsOpenSolutionOf p odd (whole_fork p v) f y → IsSolutionOf p v odd f y
solution_bare p v odd f y is = record {
  pair = pair_alike p v odd (cells_by p (with_own v None f)) (cells_by p f) y (alike_by p v (with_own v None f) f (λ u _. same u)) is.placement is.placed closed.pair;
  inside = λ u b e. closed.inside u b (same u ∙ e);
}
  where
    closed : IsSolutionOf p v odd (with_own v None f) y
    closed = solution_closed p v odd None f y (λ b e. absurd (cc)) is

    free : f v ≡ None
    free = none_or (f v) (λ b e.
        let (h, found, over) = is.inside v b e in
        omega (
          arith,
          child_above p.tree.nodes p.tree.a_tree v h (live_child_parts p v h found).child,
          over_le (parent_of p.tree.nodes) (tree_falls p.tree.nodes p.tree.a_tree) h v over,
        ))

    same : (u : ℕ) → with_own v None f u ≡ f u
    same u = elim (cases_eq u v) [
      | inl at ↦ subst (λ (k : ℕ). with_own v None f k ≡ f k) (sym at) (with_here v None f ∙ sym free)
      | inr other ↦ with_other v None f u other
    ]
