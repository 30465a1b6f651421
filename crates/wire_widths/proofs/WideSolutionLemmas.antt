-- How solutions with widths grow with their pairs.
use Rattle.std.proofs.Common.{◌≡◌, ◌≢◌, ◌⊎◌, ℕ, ◌+◌, ◌*◌, ◌<◌, ◌≤◌, ◌==◌, ◌≤ℤ◌, Bool, true, false, cond, List, [], ◌∷◌, length, slice_index_or, refl, sym, ap, ◌∙◌, subst, arith, inl, inr, Option, Some, None, int_lt}
use Rattle.std.proofs.lemmas.Bool.{cases_eq, cases_lt, cases_Bool, eq-eqb, ne_eqb, false≢true}
use Rattle.std.proofs.lemmas.Int.{ints, clamps}
use Rattle.std.proofs.lemmas.List.{get_or_past}
use Rattle.std.proofs.lemmas.List.FromFn.{length-map-range_with_len, get_or-map-range_with_len}
use Rattle.std.proofs.lemmas.List.Sums.{sum_by-cons}
use Rattle.std.specs.List.{Contains}
use Rattle.elmore.specs.Cells.{rep_of}
use Rattle.elmore.specs.Legal.{MayHave}
use Rattle.elmore.specs.Path.{is_over}
use Rattle.elmore.specs.PlacedLaws.{AreAlikeFrom}
use Rattle.elmore.specs.Placements.{IsSinkAt}
use Rattle.elmore.specs.Problems.{is_live, sink_of}
use Rattle.elmore.specs.Trees.{parent_of}
use Rattle.elmore.specs.declared.parts.Sink.{Sink}
use Rattle.elmore.specs.declared.pair.Pair.{Pair}
use Rattle.elmore.specs.declared.problem.Problem.{Problem}
use Rattle.elmore.proofs.PathLemmas.{over_self, over_le, over_trans}
use Rattle.elmore.proofs.TreeLemmas.{tree_falls}
use Rattle.cand_pairs.specs.Candidates.{PairSets, IsLive, own_capacitance, with_cell, past_cell, live_children, Fork, fork_of, whole_fork}
use Rattle.cand_pairs.specs.Merging.{meet, raised, live_from, own_from, fork_from}
use Rattle.cand_pairs.specs.Solutions.{cells_by, either_of, joined, with_own}
use Rattle.cand_pairs.proofs.ChildLemmas.{IsChild, child_above, over_child, one_child, in_cons}
use Rattle.cand_pairs.proofs.ChoiceLemmas.{in_list_cases, sum_alike_in}
use Rattle.cand_pairs.proofs.FromLemmas.{live_here, live_own, not_yet}
use Rattle.cand_pairs.proofs.PairPartLemmas.{live_child_parts}
use Rattle.cand_pairs.proofs.SmallPairLemmas.{live_from_in}
use Rattle.cand_pairs.proofs.SolutionLemmas.{read_by, fits_from, sound_from}
use Rattle.cand_pairs.proofs.SpliceLemmas.{IsSound, IsPlacedCell}
use Rattle.wire_widths.specs.Widths.{AreWidths, IsLawful, chosen_at}
use Rattle.wire_widths.specs.WidePairs.{IsWidePairOf, IsWideOpenBy, carried_by}
use Rattle.wire_widths.specs.WideSolutions.{wire_site, row_of, rows_by, with_row, IsSiteUnder, IsWideSolutionOf, wide_pairs_of, IsWideOpenSolutionOf, IsWideCarriedSolution}
use Rattle.wire_widths.specs.declared.width.Width.{Width}
use Rattle.wire_widths.proofs.WidePartLemmas.{wide_pair_whole}
use Rattle.wire_widths.proofs.WideSpliceLemmas.{wide_alike, wide_within, join_within}

-- ONE CHILD MORE for open pairs
pub with_child : ℕ → Pair → (ℕ → Pair) → ℕ → Pair
with_child u z pick w = cond (w == u) z (pick w)

child_here : (u : ℕ) (z : Pair) (pick : ℕ → Pair) → with_child u z pick u ≡ z
unfolding with_child
child_here u z pick = rw (eq-eqb u u refl) refl

child_other : (u : ℕ) (z : Pair) (pick : ℕ → Pair) (w : ℕ) → w ≢ u → with_child u z pick w ≡ pick w
unfolding with_child
child_other u z pick w other = rw (ne_eqb w u other) refl

pub wide_more_child : (p : Problem) (widths : List Width) (In : PairSets) (v : ℕ) (odd : Bool) (own : ℕ) (us : List ℕ) (u : ℕ) (pick : ℕ → Pair)
    (row rows : ℕ → ℕ) (y z : Pair) → (Contains us u → ⊥) → IsWideOpenBy p widths In odd (fork_of v own us) pick row y → In u odd z
    → rows u < length widths → ((w : ℕ) → Contains us w → rows w ≡ row w)
    → IsWideOpenBy p widths In odd (fork_of v own (u ∷ us)) (with_child u z pick) rows (meet y (carried_by p widths u (rows u) z))
wide_more_child p widths In v odd own us u pick row rows y z apart is z_in row_in same = record {
  chosen = λ w found. elim (in_list_cases u us w found) [
    | inl e ↦ subst (λ (k : ℕ). In k odd (with_child u z pick k)) e (subst (In u odd) (sym (child_here u z pick)) z_in)
    | inr later ↦ subst (In w odd) (sym (old w later)) (is.chosen w later)
  ];
  rows = λ w found. elim (in_list_cases u us w found) [
    | inl e ↦ subst (λ (k : ℕ). rows k < length widths) e row_in
    | inr later ↦ omega (arith, same w later, is.rows w later)
  ];
  wanted = is.wanted;
  joined = record {
    least = λ w found. elim (in_list_cases u us w found) [
      | inl e ↦
          subst (λ (k : ℕ). (meet y (carried_by p widths u (rows u) z)).q ≤ℤ (carried_by p widths k (rows k) (with_child u z pick k)).q) e
          (omega (arith, ints, clamps, ap (λ (x : Pair). (carried_by p widths u (rows u) x).q) (child_here u z pick)))
      | inr later ↦ omega (arith, ints, clamps, is.joined.least w later, old_q w later)
    ];
    in_time = λ sink here. omega (arith, ints, clamps, is.joined.in_time sink here);
    met = elim (cases_Bool (int_lt (carried_by p widths u (rows u) z).q y.q)) [
      | inl less ↦ inl (
        u,
        (0, omega arith, refl),
        omega (arith, ints, clamps, less, ap (λ (x : Pair). (carried_by p widths u (rows u) x).q) (child_here u z pick)),
      )
      | inr more ↦ elim is.joined.met [
        | inl (w, found, e) ↦ inl (w, in_cons u us w found, omega (arith, ints, clamps, more, e, old_q w found))
        | inr (sink, here, e) ↦ inr (sink, here, omega (arith, ints, clamps, more, e))
      ]
    ];
    load =
        omega (
          arith,
          is.joined.load,
          sum_by-cons (λ (w : ℕ). (carried_by p widths w (rows w) (with_child u z pick w)).c) u us,
          ap (λ (x : Pair). x.c) (child_here u z pick),
          sum_alike_in (λ (w : ℕ). (carried_by p widths w (rows w) (with_child u z pick w)).c) (λ (w : ℕ). (carried_by p widths w (row w) (pick w)).c) us
              (λ w found. ap (λ (x : Pair). x.c) (old_carried w found)),
        );
  };
}
  where
    old : (w : ℕ) → Contains us w → with_child u z pick w ≡ pick w
    old w found = child_other u z pick w (λ e. apart (subst (Contains us) e found))

    old_carried : (w : ℕ) → Contains us w → carried_by p widths w (rows w) (with_child u z pick w) ≡ carried_by p widths w (row w) (pick w)
    old_carried w found = λ i. carried_by p widths w (same w found i) (old w found i)

    old_q : (w : ℕ) → Contains us w → (carried_by p widths w (rows w) (with_child u z pick w)).q ≡ (carried_by p widths w (row w) (pick w)).q
    old_q w found = ap (λ (x : Pair). x.q) (old_carried w found)

-- with rows that are the same at the children they are the same
pub wide_rows_alike : (p : Problem) (widths : List Width) (In : PairSets) (odd : Bool) (fork : Fork) (pick : ℕ → Pair) (row rows : ℕ → ℕ) (y : Pair)
    → ((w : ℕ) → Contains fork.children w → row w ≡ rows w) → IsWideOpenBy p widths In odd fork pick row y → IsWideOpenBy p widths In odd fork pick rows y
wide_rows_alike p widths In odd fork pick row rows y same is = record {
  chosen = is.chosen;
  rows = λ w found. omega (arith, same w found, is.rows w found);
  wanted = is.wanted;
  joined = record {
    least = λ w found. omega (arith, ints, is.joined.least w found, ap (λ (k : ℕ). (carried_by p widths w k (pick w)).q) (same w found));
    in_time = is.joined.in_time;
    met = elim is.joined.met [
      | inl (w, found, e) ↦ inl (w, found, e ∙ ap (λ (k : ℕ). (carried_by p widths w k (pick w)).q) (same w found))
      | inr at_sink ↦ inr at_sink
    ];
    load =
        omega (
          arith,
          is.joined.load,
          sum_alike_in (λ (w : ℕ). (carried_by p widths w (row w) (pick w)).c) (λ (w : ℕ). (carried_by p widths w (rows w) (pick w)).c) fork.children
              (λ w found. ap (λ (k : ℕ). (carried_by p widths w k (pick w)).c) (same w found)),
        );
  };
}

-- THE FIRST CHILD of a node without a sink
pub wide_first_child : (p : Problem) (widths : List Width) (In : PairSets) (v : ℕ) (odd : Bool) (own u : ℕ) (rows : ℕ → ℕ) (z : Pair)
    → sink_of p.sinks v ≡ None → In u odd z → rows u < length widths
    → IsWideOpenBy p widths In odd (fork_of v own (u ∷ [])) (λ _. z) rows (raised own (carried_by p widths u (rows u) z))
wide_first_child p widths In v odd own u rows z none z_in row_in = record {
  chosen = λ w found. subst (λ (k : ℕ). In k odd z) (only w found) z_in;
  rows = λ w found. subst (λ (k : ℕ). rows k < length widths) (only w found) row_in;
  wanted = λ sink here. absurd (no_sink sink here);
  joined = record {
    least = λ w found.
        subst (λ (k : ℕ). (raised own (carried_by p widths u (rows u) z)).q ≤ℤ (carried_by p widths k (rows k) z).q) (only w found) (omega (arith, ints));
    in_time = λ sink here. absurd (no_sink sink here);
    met = inl (u, (0, omega arith, refl), refl);
    load = omega (arith, sum_by-cons (λ (w : ℕ). (carried_by p widths w (rows w) z).c) u []);
  };
}
  where
    no_sink : (sink : Sink) → IsSinkAt p v sink → ⊥
    no_sink sink here = let e : None ≡ Some sink = sym none ∙ here in absurd (cc)

    only : (w : ℕ) → Contains (u ∷ []) w → u ≡ w
    only w found = elim (in_list_cases u [] w found) [
      | inl e ↦ e
      | inr (k, k_n, e) ↦ absurd (omega arith)
    ]

-- READING the rows of a solution
pub row_read : (p : Problem) (f : ℕ → Option ℕ) (u : ℕ) → u < length p.tree.nodes → chosen_at (rows_by p f) u ≡ row_of (f (wire_site p u))
row_read p f u u_n = get_or-map-range_with_len (λ u. row_of (f (wire_site p u))) 0 (length p.tree.nodes) u u 0 u_n (omega arith)

pub rows_length : (p : Problem) (f : ℕ → Option ℕ) → length (rows_by p f) ≡ length p.tree.nodes
rows_length p f = length-map-range_with_len (λ u. row_of (f (wire_site p u))) 0 (length p.tree.nodes)

row_past : (p : Problem) (f : ℕ → Option ℕ) (u : ℕ) → length p.tree.nodes ≤ u → chosen_at (rows_by p f) u ≡ 0
row_past p f u high = get_or_past (rows_by p f) u 0 (omega (arith, rows_length p f))

-- what a solution says of each wire makes its rows lawful, and back
pub record IsLawfulAt (p : Problem) (widths : List Width) (u : ℕ) (o : Option ℕ) : Type 0 where
  pub named : row_of o < length widths
  pub root : u ≡ 0 → row_of o ≡ 0
  pub dead : is_live p.tree.nodes p.sinks u ≡ false → row_of o ≡ 0

pub lawful_at : (p : Problem) (widths : List Width) (f : ℕ → Option ℕ) → IsLawful p widths (rows_by p f) → (u : ℕ) → u < length p.tree.nodes
    → IsLawfulAt p widths u (f (wire_site p u))
lawful_at p widths f lawful u u_n = record {
  named = omega (arith, row_read p f u u_n, lawful.rows u);
  root = λ e. sym (row_read p f u u_n) ∙ ap (chosen_at (rows_by p f)) e ∙ lawful.root;
  dead = λ dead. sym (row_read p f u u_n) ∙ lawful.dead u dead;
}

pub lawful_from : (p : Problem) (widths : List Width) (f : ℕ → Option ℕ) → 0 < length widths
    → ((u : ℕ) → u < length p.tree.nodes → IsLawfulAt p widths u (f (wire_site p u))) → IsLawful p widths (rows_by p f)
lawful_from p widths f some each = record {
  one_each = rows_length p f;
  rows = λ u. elim (cases_lt u (length p.tree.nodes)) [
    | inl low ↦ omega (arith, row_read p f u low, (each u low).named)
    | inr high ↦ omega (arith, row_past p f u high, some)
  ];
  root = row_read p f 0 p.tree.a_tree.some_node ∙ (each 0 p.tree.a_tree.some_node).root refl;
  dead = λ u dead. elim (cases_lt u (length p.tree.nodes)) [
    | inl low ↦ row_read p f u low ∙ (each u low).dead dead
    | inr high ↦ row_past p f u high
  ];
}

-- solutions that agree at the wires strictly below a node have the same rows there
pub rows_alike : (p : Problem) (v : ℕ) (f g : ℕ → Option ℕ)
    → ((u : ℕ) → u < length p.tree.nodes → is_over (parent_of p.tree.nodes) v u ≡ true → u ≢ v → f (wire_site p u) ≡ g (wire_site p u))
    → (u : ℕ) → is_over (parent_of p.tree.nodes) v u ≡ true → u ≢ v → chosen_at (rows_by p f) u ≡ chosen_at (rows_by p g) u
rows_alike p v f g same u over other =
    elim (cases_lt u (length p.tree.nodes)) [
      | inl low ↦ row_read p f u low ∙ ap row_of (same u low over other) ∙ sym (row_read p g u low)
      | inr high ↦ row_past p f u high ∙ sym (row_past p g u high)
    ]

cells_length : (p : Problem) (f : ℕ → Option ℕ) → length (cells_by p f) ≡ length p.tree.nodes
cells_length p f = length-map-range_with_len f 0 (length p.tree.nodes)

-- solutions that agree at the nodes at and below a node are there alike as placements
pub wide_alike_by : (p : Problem) (v : ℕ) (f g : ℕ → Option ℕ)
    → ((u : ℕ) → u < length p.tree.nodes → is_over (parent_of p.tree.nodes) v u ≡ true → f u ≡ g u) → AreAlikeFrom p.tree.nodes v (cells_by p f) (cells_by p g)
wide_alike_by p v f g same u over =
    elim (cases_lt u (length p.tree.nodes)) [
      | inl low ↦ read_by p f u low ∙ same u low over ∙ sym (read_by p g u low)
      | inr high ↦
          get_or_past (cells_by p f) u None (omega (arith, cells_length p f))
          ∙ sym (get_or_past (cells_by p g) u None (omega (arith, cells_length p g)))
    ]

-- SITES
node_site : (p : Problem) (v u : ℕ) → u < length p.tree.nodes → is_over (parent_of p.tree.nodes) v u ≡ true → IsSiteUnder p v u
node_site p v u u_n over = record { node = u; within = u_n; under = over; site_is = inl refl }

row_site : (p : Problem) (v u : ℕ) → u < length p.tree.nodes → is_over (parent_of p.tree.nodes) v u ≡ true → IsSiteUnder p v (wire_site p u)
row_site p v u u_n over = record { node = u; within = u_n; under = over; site_is = inr refl }

-- the site of a child is one of its parent
site_over : (p : Problem) (v u s : ℕ) → IsChild p.tree.nodes v u → IsSiteUnder p u s → IsSiteUnder p v s
site_over p v u s child is = record {
  node = is.node;
  within = is.within;
  under = over_trans (parent_of p.tree.nodes) (tree_falls p.tree.nodes p.tree.a_tree) v u is.node (over_child p.tree.nodes p.tree.a_tree v u child) is.under;
  site_is = is.site_is;
}

-- a site of a child is neither the parent's own nor its wire's
site_above : (p : Problem) (v u : ℕ) → IsChild p.tree.nodes v u → IsSiteUnder p u v → ⊥
site_above p v u child is =
    let low : v < is.node = omega (
      arith,
      child_above p.tree.nodes p.tree.a_tree v u child,
      over_le (parent_of p.tree.nodes) (tree_falls p.tree.nodes p.tree.a_tree) u is.node is.under,
    ) in
    elim is.site_is [
      | inl e ↦ omega (arith, e)
      | inr e ↦ omega (arith, e, is.within)
    ]

wire_above : (p : Problem) (v u : ℕ) → IsChild p.tree.nodes v u → IsSiteUnder p u (wire_site p v) → ⊥
wire_above p v u child is =
    let low : v < is.node = omega (
      arith,
      child_above p.tree.nodes p.tree.a_tree v u child,
      over_le (parent_of p.tree.nodes) (tree_falls p.tree.nodes p.tree.a_tree) u is.node is.under,
    ) in
    elim is.site_is [
      | inl e ↦ omega (arith, e, is.within)
      | inr e ↦ omega (arith, e)
    ]

-- and of one child alone
one_site : (p : Problem) (v u i s : ℕ) → IsChild p.tree.nodes v u → IsChild p.tree.nodes v i → IsSiteUnder p u s → IsSiteUnder p i s → u ≡ i
one_site p v u i s child_u child_i a b =
    one_child p.tree.nodes p.tree.a_tree v u i a.node child_u child_i a.under
    (subst (λ (k : ℕ). is_over (parent_of p.tree.nodes) i k ≡ true) (sym same) b.under)
  where
    same : a.node ≡ b.node
    same =
        elim a.site_is [
          | inl e ↦ elim b.site_is [
            | inl k ↦ sym e ∙ k
            | inr k ↦ absurd (omega (arith, e, k, a.within))
          ]
          | inr e ↦ elim b.site_is [
            | inl k ↦ absurd (omega (arith, e, k, b.within))
            | inr k ↦ omega (arith, e, k)
          ]
        ]

site_below : (p : Problem) (v s : ℕ) → IsSiteUnder p v s → s < 2 * length p.tree.nodes
site_below p v s is =
    elim is.site_is [
      | inl e ↦ omega (arith, e, is.within)
      | inr e ↦ omega (arith, e, is.within)
    ]

-- ONE OF TWO
either_right : (a b : Option ℕ) → a ≡ None → either_of a b ≡ b
either_right a b e = rw e refl

either_left : (a b : Option ℕ) → b ≡ None → either_of a b ≡ a
either_left None b e = e
either_left (Some x) b e = refl

none_or : (o : Option ℕ) → ((b : ℕ) → o ≡ Some b → ⊥) → o ≡ None
none_or None never = refl
none_or (Some b) never = absurd (never b refl)

either_has : (Q : Option ℕ → Type 0) (a b : Option ℕ) → Q a → Q b → Q (either_of a b)
either_has Q None b a_has b_has = b_has
either_has Q (Some x) b a_has b_has = a_has

either_cases : (a b : Option ℕ) (x : ℕ) → either_of a b ≡ Some x → (a ≡ Some x) ⊎ (b ≡ Some x)
either_cases None b x e = inr e
either_cases (Some a) b x e = inl e

own_here : (v : ℕ) (own : Option ℕ) (f : ℕ → Option ℕ) → with_own v own f v ≡ own
own_here v own f = rw (eq-eqb v v refl) refl

own_other : (v : ℕ) (own : Option ℕ) (f : ℕ → Option ℕ) (u : ℕ) → u ≢ v → with_own v own f u ≡ f u
own_other v own f u other = rw (ne_eqb u v other) refl

-- A ROW FOR A WIRE changes its site alone
plain_row : (p : Problem) (i row : ℕ) (g : ℕ → Option ℕ) (s : ℕ) → row ≡ 0 → with_row p i row g s ≡ g s
plain_row p i row g s e = ap (λ b. cond b g (with_own (wire_site p i) (Some row) g) s) (eq-eqb row 0 e)

some_row : (p : Problem) (i row : ℕ) (g : ℕ → Option ℕ) (s : ℕ) → row ≢ 0 → with_row p i row g s ≡ with_own (wire_site p i) (Some row) g s
some_row p i row g s other = ap (λ b. cond b g (with_own (wire_site p i) (Some row) g) s) (ne_eqb row 0 other)

row_here : (p : Problem) (i row : ℕ) (g : ℕ → Option ℕ) → g (wire_site p i) ≡ None → row_of (with_row p i row g (wire_site p i)) ≡ row
row_here p i row g bare =
    elim (cases_eq row 0) [
      | inl e ↦ ap row_of (plain_row p i row g (wire_site p i) e ∙ bare) ∙ sym e
      | inr other ↦ ap row_of (some_row p i row g (wire_site p i) other ∙ own_here (wire_site p i) (Some row) g)
    ]

row_other : (p : Problem) (i row : ℕ) (g : ℕ → Option ℕ) (s : ℕ) → s ≢ wire_site p i → with_row p i row g s ≡ g s
row_other p i row g s apart =
    elim (cases_eq row 0) [
      | inl e ↦ plain_row p i row g s e
      | inr other ↦ some_row p i row g s other ∙ own_other (wire_site p i) (Some row) g s apart
    ]

-- A CARRIED SOLUTION: its cells are those below the wire, its rows too but for that of the wire
carried_row : (p : Problem) (widths : List Width) (i : ℕ) (odd : Bool) (h : ℕ → Option ℕ) (y : Pair) (is : IsWideCarriedSolution p widths i odd h y)
    → i < length p.tree.nodes → chosen_at (rows_by p h) i ≡ is.row
carried_row p widths i odd h y is i_n =
    row_read p h i i_n ∙ ap row_of (is.held_is (wire_site p i)) ∙ row_here p i is.row is.below is.solution.bare

carried_node : (p : Problem) (widths : List Width) (i : ℕ) (odd : Bool) (h : ℕ → Option ℕ) (y : Pair) (is : IsWideCarriedSolution p widths i odd h y)
    → (u : ℕ) → u < length p.tree.nodes → h u ≡ is.below u
carried_node p widths i odd h y is u u_n = is.held_is u ∙ row_other p i is.row is.below u (λ e. omega (arith, e))

carried_wire : (p : Problem) (widths : List Width) (i : ℕ) (odd : Bool) (h : ℕ → Option ℕ) (y : Pair) (is : IsWideCarriedSolution p widths i odd h y)
    → (u : ℕ) → u ≢ i → h (wire_site p u) ≡ is.below (wire_site p u)
carried_wire p widths i odd h y is u other = is.held_is (wire_site p u) ∙ row_other p i is.row is.below (wire_site p u) (λ e. other (omega (arith, e)))

carried_within : (p : Problem) (widths : List Width) (i : ℕ) (odd : Bool) (h : ℕ → Option ℕ) (y : Pair) (is : IsWideCarriedSolution p widths i odd h y)
    → i < length p.tree.nodes
carried_within p widths i odd h y is = wide_within p widths i odd (cells_by p is.below) (rows_by p is.below) is.pair is.solution.pair

pub carried_inside : (p : Problem) (widths : List Width) (i : ℕ) (odd : Bool) (h : ℕ → Option ℕ) (y : Pair) → IsWideCarriedSolution p widths i odd h y
    → (site b : ℕ) → h site ≡ Some b → IsSiteUnder p i site
carried_inside p widths i odd h y is s b e =
    elim (cases_eq s (wire_site p i)) [
      | inl at ↦
          subst (IsSiteUnder p i) (sym at)
          (row_site p i i (carried_within p widths i odd h y is) (over_self (parent_of p.tree.nodes) (tree_falls p.tree.nodes p.tree.a_tree) i))
      | inr other ↦ is.solution.inside s b (sym (row_other p i is.row is.below s other) ∙ sym (is.held_is s) ∙ e)
    ]

carried_sound : (p : Problem) (widths : List Width) (i : ℕ) (odd : Bool) (h : ℕ → Option ℕ) (y : Pair) → IsWideCarriedSolution p widths i odd h y
    → IsSound p (cells_by p h)
carried_sound p widths i odd h y is =
    sound_from p h (λ u u_n.
    subst (IsPlacedCell p u) (sym (carried_node p widths i odd h y is u u_n)) (fits_from p is.below is.solution.pair.placement is.solution.pair.placed u u_n))

carried_lawful : (p : Problem) (widths : List Width) (i : ℕ) (odd : Bool) (h : ℕ → Option ℕ) (y : Pair) → AreWidths widths → IsLive p i → i ≢ 0
    → IsWideCarriedSolution p widths i odd h y → IsLawful p widths (rows_by p h)
carried_lawful p widths i odd h y are live some is =
    lawful_from p widths h are.some (λ u u_n. elim (cases_eq u i) [
      | inl at ↦ subst (λ (k : ℕ). IsLawfulAt p widths k (h (wire_site p k))) (sym at) (record {
        named = omega (arith, row_is, is.named);
        root = λ e. absurd (some e);
        dead = λ dead. absurd (false≢true (sym dead ∙ live));
      })
      | inr other ↦
          subst (IsLawfulAt p widths u) (sym (carried_wire p widths i odd h y is u other))
          (lawful_at p widths is.below is.solution.pair.lawful u u_n)
    ])
  where
    row_is : row_of (h (wire_site p i)) ≡ is.row
    row_is = ap row_of (is.held_is (wire_site p i)) ∙ row_here p i is.row is.below is.solution.bare

carried_pair : (p : Problem) (widths : List Width) (i : ℕ) (odd : Bool) (h : ℕ → Option ℕ) (y : Pair) → AreWidths widths → IsLive p i → i ≢ 0
    → (is : IsWideCarriedSolution p widths i odd h y) → IsWidePairOf p widths i odd (cells_by p h) (rows_by p h) is.pair
carried_pair p widths i odd h y are live some is =
    wide_alike p widths i odd (cells_by p is.below) (cells_by p h) (rows_by p is.below) (rows_by p h) is.pair
    (wide_alike_by p i is.below h (λ u u_n _. sym (carried_node p widths i odd h y is u u_n)))
    (rows_alike p i is.below h (λ u _ _ other. sym (carried_wire p widths i odd h y is u other)))
    sound.placement sound.placed (carried_lawful p widths i odd h y are live some is) is.solution.pair
  where
    sound : IsSound p (cells_by p h)
    sound = carried_sound p widths i odd h y is

-- ONE MORE CHILD
pub wide_more_carried : (p : Problem) (widths : List Width) (v : ℕ) (odd : Bool) (own : ℕ) (us : List ℕ) (i : ℕ) (f h : ℕ → Option ℕ) (x y : Pair)
    → AreWidths widths → ((u : ℕ) → Contains us u → IsChild p.tree.nodes v u) → IsChild p.tree.nodes v i → IsLive p i → (Contains us i → ⊥)
    → IsWideOpenSolutionOf p widths odd (fork_of v own us) f x → IsWideCarriedSolution p widths i odd h y
    → IsWideOpenSolutionOf p widths odd (fork_of v own (i ∷ us)) (joined f h) (meet x y)
wide_more_carried p widths v odd own us i f h x y are children child live apart f_is h_is = record {
  pick = with_child i h_is.pair f_is.pick;
  pair =
      subst (IsWideOpenBy p widths all odd (fork_of v own (i ∷ us)) (with_child i h_is.pair f_is.pick) (chosen_at (rows_by p (joined f h))))
      (ap (λ (k : ℕ). meet x (carried_by p widths i k h_is.pair)) row_is ∙ ap (meet x) (sym h_is.carried))
      (wide_more_child p widths all v odd own us i f_is.pick (chosen_at (rows_by p f)) (chosen_at (rows_by p (joined f h))) x h_is.pair apart
      (record {
        chosen = λ u found.
            wide_alike p widths u odd (cells_by p f) (cells_by p (joined f h)) (rows_by p f) (rows_by p (joined f h)) (f_is.pick u)
            (wide_alike_by p u f (joined f h) (λ w w_n over. left u found w (node_site p u w w_n over)))
            (rows_alike p u f (joined f h) (λ w w_n over _. left u found (wire_site p w) (row_site p u w w_n over)))
            sound.placement sound.placed lawful (f_is.pair.chosen u found);
        rows = f_is.pair.rows;
        wanted = f_is.pair.wanted;
        joined = f_is.pair.joined;
      })
      (wide_alike p widths i odd (cells_by p h) (cells_by p (joined f h)) (rows_by p h) (rows_by p (joined f h)) h_is.pair
      (wide_alike_by p i h (joined f h) (λ w w_n over. right w (node_site p i w w_n over)))
      (rows_alike p i h (joined f h) (λ w w_n over _. right (wire_site p w) (row_site p i w w_n over)))
      sound.placement sound.placed lawful (carried_pair p widths i odd h y are live some h_is))
      (lawful.rows i)
      (λ u found.
      let u_n : u < length p.tree.nodes = (children u found).node in
      row_read p (joined f h) u u_n
      ∙ ap row_of (sym (left u found (wire_site p u) (row_site p u u u_n (self u))))
      ∙ sym (row_read p f u u_n)));
  placement = sound.placement;
  placed = sound.placed;
  lawful = lawful;
  inside = λ s b e. elim (either_cases (f s) (h s) b e) [
    | inl at ↦ let (u, found, under) = f_is.inside s b at in (u, in_cons i us u found, under)
    | inr at ↦ (i, (0, omega arith, refl), carried_inside p widths i odd h y h_is s b at)
  ];
}
  where
    all : PairSets
    all = wide_pairs_of p widths (cells_by p (joined f h)) (rows_by p (joined f h))

    some : i ≢ 0
    some e = omega (arith, e, child_above p.tree.nodes p.tree.a_tree v i child)

    self : (u : ℕ) → is_over (parent_of p.tree.nodes) u u ≡ true
    self u = over_self (parent_of p.tree.nodes) (tree_falls p.tree.nodes p.tree.a_tree) u

    below : IsSound p (cells_by p h)
    below = carried_sound p widths i odd h y h_is

    sound : IsSound p (cells_by p (joined f h))
    sound =
        sound_from p (joined f h) (λ u u_n.
        either_has (IsPlacedCell p u) (f u) (h u) (fits_from p f f_is.placement f_is.placed u u_n) (fits_from p h below.placement below.placed u u_n))

    lawful : IsLawful p widths (rows_by p (joined f h))
    lawful =
        lawful_from p widths (joined f h) are.some (λ u u_n.
        either_has (IsLawfulAt p widths u) (f (wire_site p u)) (h (wire_site p u)) (lawful_at p widths f f_is.lawful u u_n)
        (lawful_at p widths h (carried_lawful p widths i odd h y are live some h_is) u u_n))

    left : (u : ℕ) → Contains us u → (s : ℕ) → IsSiteUnder p u s → f s ≡ either_of (f s) (h s)
    left u found s under =
        sym (either_left (f s) (h s) (none_or (h s) (λ b e.
        apart (subst (Contains us) (one_site p v u i s (children u found) child under (carried_inside p widths i odd h y h_is s b e)) found))))

    right : (s : ℕ) → IsSiteUnder p i s → h s ≡ either_of (f s) (h s)
    right s under =
        sym (either_right (f s) (h s) (none_or (f s) (λ b e.
        let (u, found, under_u) = f_is.inside s b e in
        apart (subst (Contains us) (one_site p v u i s (children u found) child under_u under) found))))

    row_is : chosen_at (rows_by p (joined f h)) i ≡ h_is.row
    row_is =
        row_read p (joined f h) i child.node
        ∙ ap row_of (sym (right (wire_site p i) (row_site p i i child.node (self i))))
        ∙ sym (row_read p h i child.node)
        ∙ carried_row p widths i odd h y h_is child.node

-- and so when a live node comes in to its parent
pub wide_from_more : (p : Problem) (widths : List Width) (v i : ℕ) (odd : Bool) (f h : ℕ → Option ℕ) (x y : Pair) → AreWidths widths
    → IsChild p.tree.nodes v i → IsLive p i → IsWideOpenSolutionOf p widths odd (fork_from p v (i + 1)) f x → IsWideCarriedSolution p widths i odd h y
    → IsWideOpenSolutionOf p widths odd (fork_from p v i) (joined f h) (meet x y)
wide_from_more p widths v i odd f h x y are child live f_is h_is =
    subst (λ (us : List ℕ). IsWideOpenSolutionOf p widths odd (fork_of v (own_from p v i) us) (joined f h) (meet x y)) (sym (live_here p v i child live))
    (subst (λ (own : ℕ). IsWideOpenSolutionOf p widths odd (fork_of v own (i ∷ live_from p v (i + 1))) (joined f h) (meet x y)) (sym (live_own p v i child live))
    (wide_more_carried p widths v odd (own_from p v (i + 1)) (live_from p v (i + 1)) i f h x y are
    (λ u found. (live_child_parts p v u (live_from_in p v (i + 1) u found)).child) child live (not_yet p v i) f_is h_is))

pub wide_more : (p : Problem) (widths : List Width) (v : ℕ) (odd : Bool) (own : ℕ) (us : List ℕ) (i row : ℕ) (f g : ℕ → Option ℕ) (x z : Pair)
    → AreWidths widths → ((u : ℕ) → Contains us u → IsChild p.tree.nodes v u) → IsChild p.tree.nodes v i → IsLive p i → (Contains us i → ⊥)
    → row < length widths → IsWideOpenSolutionOf p widths odd (fork_of v own us) f x → IsWideSolutionOf p widths i odd g z
    → IsWideOpenSolutionOf p widths odd (fork_of v own (i ∷ us)) (joined f (with_row p i row g)) (meet x (carried_by p widths i row z))
wide_more p widths v odd own us i row f g x z are children child live apart row_in f_is g_is =
    wide_more_carried p widths v odd own us i f (with_row p i row g) x (carried_by p widths i row z) are children child live apart f_is (record {
      below = g;
      row = row;
      pair = z;
      named = row_in;
      solution = g_is;
      carried = refl;
      held_is = λ _. refl;
    })

pub wide_first : (p : Problem) (widths : List Width) (v : ℕ) (odd : Bool) (own i : ℕ) (h : ℕ → Option ℕ) (y : Pair) → AreWidths widths
    → sink_of p.sinks v ≡ None → IsChild p.tree.nodes v i → IsLive p i → IsWideCarriedSolution p widths i odd h y
    → IsWideOpenSolutionOf p widths odd (fork_of v own (i ∷ [])) h (raised own y)
wide_first p widths v odd own i h y are none child live is = record {
  pick = λ _. is.pair;
  pair =
      subst (IsWideOpenBy p widths all odd (fork_of v own (i ∷ [])) (λ _. is.pair) (chosen_at (rows_by p h)))
      (ap (λ (k : ℕ). raised own (carried_by p widths i k is.pair)) (carried_row p widths i odd h y is child.node) ∙ ap (raised own) (sym is.carried))
      (wide_first_child p widths all v odd own i (chosen_at (rows_by p h)) is.pair none (carried_pair p widths i odd h y are live some is) (lawful.rows i));
  placement = sound.placement;
  placed = sound.placed;
  lawful = lawful;
  inside = λ s b e. (i, (0, omega arith, refl), carried_inside p widths i odd h y is s b e);
}
  where
    all : PairSets
    all = wide_pairs_of p widths (cells_by p h) (rows_by p h)

    some : i ≢ 0
    some e = omega (arith, e, child_above p.tree.nodes p.tree.a_tree v i child)

    sound : IsSound p (cells_by p h)
    sound = carried_sound p widths i odd h y is

    lawful : IsLawful p widths (rows_by p h)
    lawful = carried_lawful p widths i odd h y are live some is

pub wide_sink : (p : Problem) (widths : List Width) (v own : ℕ) (sink : Sink) → AreWidths widths → IsSinkAt p v sink
    → IsWideOpenSolutionOf p widths sink.inverted (fork_of v own []) (λ _. None) (record { q = sink.required; c = own })
wide_sink p widths v own sink are here = record {
  pick = λ _. record { q = sink.required; c = own };
  pair = record {
    chosen = λ w (k, k_n, e). absurd (omega arith);
    rows = λ w (k, k_n, e). absurd (omega arith);
    wanted = λ other there. ap (λ (s : Sink). s.inverted) (one other there);
    joined = record {
      least = λ w (k, k_n, e). absurd (omega arith);
      in_time = λ other there. omega (arith, ints, ap (λ (s : Sink). s.required) (one other there));
      met = inr (sink, here, refl);
      load = omega arith;
    };
  };
  placement = sound.placement;
  placed = sound.placed;
  lawful = lawful_from p widths (λ _. None) are.some (λ u u_n. record { named = omega (arith, are.some); root = λ _. refl; dead = λ _. refl });
  inside = λ s b e. absurd (cc);
}
  where
    sound : IsSound p (cells_by p (λ _. None))
    sound = sound_from p (λ _. None) (λ u u_n b e. absurd (cc))

    one : (other : Sink) → IsSinkAt p v other → sink ≡ other
    one other there = let both : Some sink ≡ Some other = sym here ∙ there in cc (both)

pub wide_raised : (p : Problem) (widths : List Width) (v : ℕ) (odd : Bool) (own c : ℕ) (us : List ℕ) (f : ℕ → Option ℕ) (x : Pair)
    → IsWideOpenSolutionOf p widths odd (fork_of v own us) f x → IsWideOpenSolutionOf p widths odd (fork_of v (own + c) us) f (raised c x)
wide_raised p widths v odd own c us f x is = record {
  pick = is.pick;
  pair = record {
    chosen = is.pair.chosen;
    rows = is.pair.rows;
    wanted = is.pair.wanted;
    joined = record {
      least = is.pair.joined.least;
      in_time = is.pair.joined.in_time;
      met = is.pair.joined.met;
      load = omega (arith, is.pair.joined.load);
    };
  };
  placement = is.placement;
  placed = is.placed;
  lawful = is.lawful;
  inside = is.inside;
}

-- THE NODE'S OWN CELL
pub wide_closed : (p : Problem) (widths : List Width) (v : ℕ) (odd : Bool) (own : Option ℕ) (f : ℕ → Option ℕ) (y : Pair) → AreWidths widths → MayHave p v own y.c
    → IsWideOpenSolutionOf p widths (past_cell (rep_of p.reps own) odd) (whole_fork p v) f y
    → IsWideSolutionOf p widths v odd (with_own v own f) (with_cell (rep_of p.reps own) y)
wide_closed p widths v odd own f y are may is = record {
  pair =
      subst (λ (o : Option ℕ). IsWidePairOf p widths v odd cells rows (with_cell (rep_of p.reps o) y)) here
      (wide_pair_whole p widths v odd cells rows is.pick y are v_n sound.placement sound.placed lawful (λ b e. may b (sym here ∙ e))
      (subst (λ (o : Option ℕ). IsWideOpenBy p widths (wide_pairs_of p widths cells rows) (past_cell (rep_of p.reps o) odd) (whole_fork p v) is.pick (chosen_at rows) y)
      (sym here) is_open));
  inside = λ s b e. elim (cases_eq s v) [
    | inl at ↦
        subst (IsSiteUnder p v) (sym at) (node_site p v v v_n (over_self (parent_of p.tree.nodes) (tree_falls p.tree.nodes p.tree.a_tree) v))
    | inr other ↦
        let (u, found, under) = is.inside s b (sym (own_other v own f s other) ∙ e) in
        site_over p v u s (live_child_parts p v u found).child under
  ];
  bare = wire_same v ∙ none_or (f (wire_site p v)) (λ b e.
      let (u, found, under) = is.inside (wire_site p v) b e in
      wire_above p v u (live_child_parts p v u found).child under);
}
  where
    cells : List (Option ℕ)
    cells = cells_by p (with_own v own f)

    rows : List ℕ
    rows = rows_by p (with_own v own f)

    v_n : v < length p.tree.nodes
    v_n = join_within p widths v (own_capacitance p v) is.pick (chosen_at (rows_by p f)) y is.pair.joined

    wire_same : (u : ℕ) → with_own v own f (wire_site p u) ≡ f (wire_site p u)
    wire_same u = own_other v own f (wire_site p u) (λ e. omega (arith, e, v_n))

    sound : IsSound p (cells_by p (with_own v own f))
    sound =
        sound_from p (with_own v own f) (λ u u_n. elim (cases_eq u v) [
          | inl at ↦ subst (λ (k : ℕ). IsPlacedCell p k (with_own v own f k)) (sym at) (subst (IsPlacedCell p v) (sym (own_here v own f)) (λ b e. ((may b e).at_place, (may b e).named)))
          | inr other ↦ subst (IsPlacedCell p u) (sym (own_other v own f u other)) (fits_from p f is.placement is.placed u u_n)
        ])

    lawful : IsLawful p widths (rows_by p (with_own v own f))
    lawful =
        lawful_from p widths (with_own v own f) are.some
        (λ u u_n. subst (IsLawfulAt p widths u) (sym (wire_same u)) (lawful_at p widths f is.lawful u u_n))

    rows_same : (u : ℕ) → u < length p.tree.nodes → chosen_at (rows_by p f) u ≡ chosen_at (rows_by p (with_own v own f)) u
    rows_same u u_n = row_read p f u u_n ∙ ap row_of (sym (wire_same u)) ∙ sym (row_read p (with_own v own f) u u_n)

    here : slice_index_or (cells_by p (with_own v own f)) v None ≡ own
    here = read_by p (with_own v own f) v v_n ∙ own_here v own f

    is_open : IsWideOpenBy p widths (wide_pairs_of p widths (cells_by p (with_own v own f)) (rows_by p (with_own v own f))) (past_cell (rep_of p.reps own) odd)
        (whole_fork p v) is.pick (chosen_at (rows_by p (with_own v own f))) y
    is_open =
        wide_rows_alike p widths (wide_pairs_of p widths (cells_by p (with_own v own f)) (rows_by p (with_own v own f))) (past_cell (rep_of p.reps own) odd)
        (whole_fork p v) is.pick (chosen_at (rows_by p f)) (chosen_at (rows_by p (with_own v own f))) y
        (λ u found. rows_same u (live_child_parts p v u found).child.node)
        (record {
          chosen = λ u found.
              wide_alike p widths u (past_cell (rep_of p.reps own) odd) (cells_by p f) (cells_by p (with_own v own f)) (rows_by p f) (rows_by p (with_own v own f)) (is.pick u)
              (wide_alike_by p u f (with_own v own f) (λ w w_n over. sym (own_other v own f w (λ e.
              omega (
                arith,
                e,
                child_above p.tree.nodes p.tree.a_tree v u (live_child_parts p v u found).child,
                over_le (parent_of p.tree.nodes) (tree_falls p.tree.nodes p.tree.a_tree) u w over,
              )))))
              (rows_alike p u f (with_own v own f) (λ w _ _ _. sym (wire_same w)))
              sound.placement sound.placed lawful (is.pair.chosen u found);
          rows = is.pair.rows;
          wanted = is.pair.wanted;
          joined = is.pair.joined;
        })

-- a solution has nothing at the node that its children are of
pub wide_open_bare : (p : Problem) (widths : List Width) (v : ℕ) (odd : Bool) (own : ℕ) (us : List ℕ) (f : ℕ → Option ℕ) (x : Pair)
    → ((u : ℕ) → Contains us u → IsChild p.tree.nodes v u) → IsWideOpenSolutionOf p widths odd (fork_of v own us) f x → f v ≡ None
wide_open_bare p widths v odd own us f x children is =
    none_or (f v) (λ b e.
    let (u, found, under) = is.inside v b e in
    site_above p v u (children u found) under)

pub wide_whole_bare : (p : Problem) (widths : List Width) (v : ℕ) (odd : Bool) (f : ℕ → Option ℕ) (x : Pair)
    → IsWideOpenSolutionOf p widths odd (whole_fork p v) f x → f v ≡ None
wide_whole_bare p widths v odd f x is =
    wide_open_bare p widths v odd (own_capacitance p v) (live_children p v) f x (λ u found. (live_child_parts p v u found).child) is

pub wide_from_bare : (p : Problem) (widths : List Width) (v i : ℕ) (odd : Bool) (f : ℕ → Option ℕ) (x : Pair)
    → IsWideOpenSolutionOf p widths odd (fork_from p v i) f x → f v ≡ None
wide_from_bare p widths v i odd f x is =
    wide_open_bare p widths v odd (own_from p v i) (live_from p v i) f x (λ u found. (live_child_parts p v u (live_from_in p v i u found)).child) is

-- and without a cell the solution stays as it is
pub wide_bare : (p : Problem) (widths : List Width) (v : ℕ) (odd : Bool) (f : ℕ → Option ℕ) (y : Pair) → AreWidths widths
    → IsWideOpenSolutionOf p widths odd (whole_fork p v) f y → IsWideSolutionOf p widths v odd f y
wide_bare p widths v odd f y are is =
    subst (λ held. IsWideSolutionOf p widths v odd held y) (λ j s. same s j) (wide_closed p widths v odd None f y are (λ b e. absurd (cc)) is)
  where
    same : (u : ℕ) → with_own v None f u ≡ f u
    same u = elim (cases_eq u v) [
      | inl at ↦ subst (λ (k : ℕ). with_own v None f k ≡ f k) (sym at) (own_here v None f ∙ sym (wide_whole_bare p widths v odd f y is))
      | inr other ↦ own_other v None f u other
    ]

-- APART: an open solution and a carried one of another child choose at no site both
pub wide_apart : (p : Problem) (widths : List Width) (v : ℕ) (odd other : Bool) (own : ℕ) (us : List ℕ) (i : ℕ) (f h : ℕ → Option ℕ) (x y : Pair)
    → ((u : ℕ) → Contains us u → IsChild p.tree.nodes v u) → IsChild p.tree.nodes v i → (Contains us i → ⊥)
    → IsWideOpenSolutionOf p widths odd (fork_of v own us) f x → IsWideCarriedSolution p widths i other h y
    → (s a b : ℕ) → f s ≡ Some a → h s ≡ Some b → ⊥
wide_apart p widths v odd other own us i f h x y children child apart f_is h_is s a b f_s h_s =
    let (u, found, under) = f_is.inside s a f_s in
    apart (subst (Contains us) (one_site p v u i s (children u found) child under (carried_inside p widths i other h y h_is s b h_s)) found)

pub wide_from_apart : (p : Problem) (widths : List Width) (v i : ℕ) (odd other : Bool) (f h : ℕ → Option ℕ) (x y : Pair) → IsChild p.tree.nodes v i
    → IsWideOpenSolutionOf p widths odd (fork_from p v (i + 1)) f x → IsWideCarriedSolution p widths i other h y
    → (s a b : ℕ) → f s ≡ Some a → h s ≡ Some b → ⊥
wide_from_apart p widths v i odd other f h x y child f_is h_is =
    wide_apart p widths v odd other (own_from p v (i + 1)) (live_from p v (i + 1)) i f h x y
    (λ u found. (live_child_parts p v u (live_from_in p v (i + 1) u found)).child) child (not_yet p v i) f_is h_is

-- BELOW: all sites are those of nodes and of their wires
pub wide_below : (p : Problem) (widths : List Width) (v : ℕ) (odd : Bool) (f : ℕ → Option ℕ) (x : Pair) → IsWideSolutionOf p widths v odd f x
    → (s b : ℕ) → f s ≡ Some b → s < 2 * length p.tree.nodes
wide_below p widths v odd f x is s b e = site_below p v s (is.inside s b e)

pub wide_carried_below : (p : Problem) (widths : List Width) (v : ℕ) (odd : Bool) (f : ℕ → Option ℕ) (x : Pair) → IsWideCarriedSolution p widths v odd f x
    → (s b : ℕ) → f s ≡ Some b → s < 2 * length p.tree.nodes
wide_carried_below p widths v odd f x is s b e = site_below p v s (carried_inside p widths v odd f x is s b e)

pub wide_open_below : (p : Problem) (widths : List Width) (odd : Bool) (fork : Fork) (f : ℕ → Option ℕ) (x : Pair) → IsWideOpenSolutionOf p widths odd fork f x
    → (s b : ℕ) → f s ≡ Some b → s < 2 * length p.tree.nodes
wide_open_below p widths odd fork f x is s b e = let (u, found, under) = is.inside s b e in site_below p u s under
