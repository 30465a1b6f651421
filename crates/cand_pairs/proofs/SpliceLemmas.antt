-- Placements of the live children of a node and a cell at the node, put together into one placement.
use Rattle.std.proofs.Common.{◌≡◌, ℕ, ◌<◌, ◌≤◌, Bool, List, [], ◌∷◌, map, length, slice_index_or, refl, sym, ap, ◌∙◌, subst, eqb, cond, arith, inl, inr, Option, Some, None, false, true}
use Rattle.std.proofs.lemmas.Bool.{cases_eq, cases_lt, eq-eqb, ne_eqb}
use Rattle.std.proofs.lemmas.List.{get_or_past}
use Rattle.std.proofs.lemmas.List.FromFn.{length-map-range_with_len, get_or-map-range_with_len}
use Rattle.std.specs.List.{Contains, filter}
use Rattle.elmore.specs.Cells.{cell_at, rep_of}
use Rattle.elmore.specs.Legal.{IsPlaced, MayHave}
use Rattle.elmore.specs.Pairs.{IsPairOf, IsPairAt}
use Rattle.elmore.specs.Path.{Falls, is_over, nodes as node_numbers}
use Rattle.elmore.specs.PlacedLaws.{AreAlikeFrom}
use Rattle.elmore.specs.Placements.{IsPlacement, load_of}
use Rattle.elmore.specs.Trees.{parent_of, resistance, capacitance}
use Rattle.cand_pairs.specs.Candidates.{live_children, own_capacitance, IsJoinOf, IsOpenBy, with_cell, past_cell, IsStep, fork_of, whole_fork}
use Rattle.cand_pairs.specs.Solutions.{pairs_of}
use Rattle.elmore.specs.declared.pair.Pair.{Pair}
use Rattle.elmore.specs.declared.problem.Problem.{Problem}
use Rattle.elmore.proofs.PathLemmas.{over_le, over_trans}
use Rattle.elmore.proofs.TreeLemmas.{tree_falls}
use Rattle.elmore.proofs.LocalLemmas.{Same, load_local, same_input_load, same_delay, same_inverters}
use Rattle.elmore.proofs.LeastLemmas.{within_sinks}
use Rattle.cand_pairs.proofs.ChildLemmas.{child_above, one_child, in_filter, filter_parts}
use Rattle.cand_pairs.proofs.ChoiceLemmas.{choose}
use Rattle.cand_pairs.proofs.PairPartLemmas.{IsLiveChild, live_child_parts, pair_whole}

-- the cells at and below a node alone decide its pairs
pub pair_alike : (p : Problem) (v : ℕ) (odd : Bool) (a b : List (Option ℕ)) (x : Pair) → AreAlikeFrom p.tree.nodes v a b → IsPlacement p b → IsPlaced p b
    → IsPairOf p v odd a x → IsPairOf p v odd b x
pair_alike p v odd a b x alike placement placed is = record {
  placement = placement;
  placed = placed;
  wanted = λ w sink under.
      rw (← same_inverters parent falls v (cell_at p.reps a) (cell_at p.reps b) same w under.under) (is.wanted w sink under);
  least = λ w sink under.
      rw (← same_delay parent falls v (cell_at p.reps a) (cell_at p.reps b) same r c n w under.under) (is.least w sink under);
  met =
      let (w, sink, under, e) = is.met in
      (w, sink, under, rw (← same_delay parent falls v (cell_at p.reps a) (cell_at p.reps b) same r c n w under.under) e);
  load = is.load ∙ same_input_load parent falls v (cell_at p.reps a) (cell_at p.reps b) same c n;
  fits = λ u over.
      subst (MayHave p u (slice_index_or b u None))
      (load_local parent falls u (cell_at p.reps a) (cell_at p.reps b)
      (record { at = λ w u_w _. ap (rep_of p.reps) (alike w (over_trans parent falls v u w over u_w)) }) c n)
      (subst (λ (o : Option ℕ). MayHave p u o (load_of p a u)) (alike u over) (is.fits u over));
}
  where
    parent : ℕ → ℕ
    parent = parent_of p.tree.nodes

    falls : Falls (parent_of p.tree.nodes)
    falls = tree_falls p.tree.nodes p.tree.a_tree

    r : ℕ → ℕ
    r = resistance p.tree.nodes

    c : ℕ → ℕ
    c = capacitance p.tree.nodes

    n : ℕ
    n = length p.tree.nodes

    same : Same (parent_of p.tree.nodes) v (cell_at p.reps a) (cell_at p.reps b)
    same = record { at = λ u over. ap (rep_of p.reps) (alike u over) }

-- the cell at w: the own one at v, at and below a live child of v that of the child's placement, and elsewhere none
first_of : (ℕ → List (Option ℕ)) → ℕ → List ℕ → Option ℕ
first_of cells_of w [] = None
first_of cells_of w (u ∷ us) = slice_index_or (cells_of u) w None

spliced_at : (p : Problem) (v : ℕ) → Option ℕ → (ℕ → List (Option ℕ)) → ℕ → Option ℕ
spliced_at p v own cells_of w =
    cond (eqb w v) own (first_of cells_of w (filter (λ u. is_over (parent_of p.tree.nodes) u w) (live_children p v)))

pub spliced : (p : Problem) (v : ℕ) → Option ℕ → (ℕ → List (Option ℕ)) → List (Option ℕ)
spliced p v own cells_of = map (spliced_at p v own cells_of) (node_numbers (length p.tree.nodes))

read : (p : Problem) (v : ℕ) (own : Option ℕ) (cells_of : ℕ → List (Option ℕ)) (w : ℕ) → w < length p.tree.nodes
    → slice_index_or (spliced p v own cells_of) w None ≡ spliced_at p v own cells_of w
unfolding spliced
read p v own cells_of w w_n = get_or-map-range_with_len (spliced_at p v own cells_of) 0 (length p.tree.nodes) w w None w_n (omega arith)

spliced_length : (p : Problem) (v : ℕ) (own : Option ℕ) (cells_of : ℕ → List (Option ℕ)) → length (spliced p v own cells_of) ≡ length p.tree.nodes
unfolding spliced
spliced_length p v own cells_of = length-map-range_with_len (spliced_at p v own cells_of) 0 (length p.tree.nodes)

pub spliced_here : (p : Problem) (v : ℕ) (own : Option ℕ) (cells_of : ℕ → List (Option ℕ)) → v < length p.tree.nodes
    → slice_index_or (spliced p v own cells_of) v None ≡ own
unfolding spliced_at
spliced_here p v own cells_of v_n = read p v own cells_of v v_n ∙ rw (eq-eqb v v refl) refl

-- a list with an element of a kind begins with one of this kind, which is then u
first_is : (cells_of : ℕ → List (Option ℕ)) (w u : ℕ) (us : List ℕ) → Contains us u → ((h : ℕ) → Contains us h → h ≡ u)
    → first_of cells_of w us ≡ slice_index_or (cells_of u) w None
unfolding first_of
first_is cells_of w u [] (k, k_n, e) only = absurd (omega arith)
first_is cells_of w u (h ∷ us) found only = ap (λ (x : ℕ). slice_index_or (cells_of x) w None) (only h (0, omega arith, refl))

pub spliced_below : (p : Problem) (v : ℕ) (own : Option ℕ) (cells_of : ℕ → List (Option ℕ)) (u : ℕ) → Contains (live_children p v) u
    → ((w : ℕ) → length p.tree.nodes ≤ w → slice_index_or (cells_of u) w None ≡ None)
    → AreAlikeFrom p.tree.nodes u (cells_of u) (spliced p v own cells_of)
unfolding spliced_at
spliced_below p v own cells_of u found past w over =
    elim (cases_lt w (length p.tree.nodes)) [
      | inr high ↦
          past w high ∙ sym (get_or_past (spliced p v own cells_of) w None (omega (arith, spliced_length p v own cells_of)))
      | inl low ↦
          let child : IsLiveChild p v u = live_child_parts p v u found in
          let above : v < u = child_above p.tree.nodes p.tree.a_tree v u child.child in
          let under : u ≤ w = over_le (parent_of p.tree.nodes) (tree_falls p.tree.nodes p.tree.a_tree) u w over in
          sym (read p v own cells_of w low
          ∙ ap (λ (b : Bool). cond b own (first_of cells_of w (filter (λ x. is_over (parent_of p.tree.nodes) x w) (live_children p v)))) (ne_eqb w v (λ e. omega arith))
          ∙ first_is cells_of w u (filter (λ x. is_over (parent_of p.tree.nodes) x w) (live_children p v))
          (in_filter (λ x. is_over (parent_of p.tree.nodes) x w) (live_children p v) u found over)
          (λ h h_in.
          let (h_found, h_over) = filter_parts (λ x. is_over (parent_of p.tree.nodes) x w) (live_children p v) h h_in in
          one_child p.tree.nodes p.tree.a_tree v h u w (live_child_parts p v h h_found).child child.child h_over over))
    ]

-- the cell, if there is one, is a repeater at a place
abbrev pub IsPlacedCell : Problem → ℕ → Option ℕ → Type 0
IsPlacedCell p v own = (b : ℕ) → own ≡ Some b → (slice_index_or p.places v false ≡ true) × (b < length p.reps)

-- the placement has cells only at places, as its parts have
pub record IsSound (p : Problem) (cells : List (Option ℕ)) : Type 0 where
  pub placement : IsPlacement p cells
  pub placed : IsPlaced p cells

first_fits : (p : Problem) (cells_of : ℕ → List (Option ℕ)) (w : ℕ) (us : List ℕ) → ((u : ℕ) → Contains us u → IsSound p (cells_of u))
    → IsPlacedCell p w (first_of cells_of w us)
unfolding first_of
first_fits p cells_of w [] sound b e = absurd (cc)
first_fits p cells_of w (u ∷ us) sound b e =
    let is : IsSound p (cells_of u) = sound u (0, omega arith, refl) in
    (is.placed w b e, is.placement.named w b e)

spliced_fits : (p : Problem) (v : ℕ) (own : Option ℕ) (cells_of : ℕ → List (Option ℕ)) → IsPlacedCell p v own
    → ((u : ℕ) → Contains (live_children p v) u → IsSound p (cells_of u)) → (w : ℕ) → IsPlacedCell p w (slice_index_or (spliced p v own cells_of) w None)
unfolding spliced_at
spliced_fits p v own cells_of may sound w =
    elim (cases_lt w (length p.tree.nodes)) [
      | inr high ↦ λ b e.
          absurd (let none : None ≡ Some b = sym (get_or_past (spliced p v own cells_of) w None (omega (arith, spliced_length p v own cells_of))) ∙ e in cc)
      | inl low ↦ subst (IsPlacedCell p w) (sym (read p v own cells_of w low)) (elim (cases_eq w v) [
        | inl e ↦ rw (eq-eqb w v e, e) may
        | inr other ↦ rw (ne_eqb w v other)
            (first_fits p cells_of w (filter (λ x. is_over (parent_of p.tree.nodes) x w) (live_children p v)) (λ u u_in.
            sound u (filter_parts (λ x. is_over (parent_of p.tree.nodes) x w) (live_children p v) u u_in).0))
      ])
    ]

pub spliced_sound : (p : Problem) (v : ℕ) (own : Option ℕ) (cells_of : ℕ → List (Option ℕ)) → IsPlacedCell p v own
    → ((u : ℕ) → Contains (live_children p v) u → IsSound p (cells_of u)) → IsSound p (spliced p v own cells_of)
spliced_sound p v own cells_of may sound = record {
  placement = record {
    one_each = spliced_length p v own cells_of;
    named = λ w b e. (spliced_fits p v own cells_of may sound w b e).1;
  };
  placed = λ w b e. (spliced_fits p v own cells_of may sound w b e).0;
}

-- the children or the sink that a choice is of are those of a node of the tree
pub join_within : (p : Problem) (v own : ℕ) (pick : ℕ → Pair) (y : Pair) → IsJoinOf p (fork_of v own (live_children p v)) pick y → v < length p.tree.nodes
join_within p v own pick y is =
    elim is.met [
      | inl (u, found, e) ↦
          let child : IsLiveChild p v u = live_child_parts p v u found in
          omega (arith, child_above p.tree.nodes p.tree.a_tree v u child.child, child.child.node)
      | inr (sink, here, e) ↦ omega (arith, within_sinks p.sinks v sink here, p.sinks_each)
    ]

-- the placement put together has the pair that comes from those of its parts
pub splice_pair : (p : Problem) (v : ℕ) (odd : Bool) (own : Option ℕ) (cells_of : ℕ → List (Option ℕ)) (pick : ℕ → Pair) (y : Pair) → MayHave p v own y.c
    → IsOpenBy p (λ u o x. IsPairOf p u o (cells_of u) x) (past_cell (rep_of p.reps own) odd) (whole_fork p v) pick y
    → IsPairOf p v odd (spliced p v own cells_of) (with_cell (rep_of p.reps own) y)
splice_pair p v odd own cells_of pick y may is = whole
  where
    cells : List (Option ℕ)
    cells = spliced p v own cells_of

    v_n : v < length p.tree.nodes
    v_n = join_within p v (own_capacitance p v) pick y is.joined

    sound : IsSound p (spliced p v own cells_of)
    sound = spliced_sound p v own cells_of (λ b e. ((may b e).at_place, (may b e).named)) (λ u found. record { placement = (is.chosen u found).placement; placed = (is.chosen u found).placed })

    here : slice_index_or (spliced p v own cells_of) v None ≡ own
    here = spliced_here p v own cells_of v_n

    past : (u : ℕ) → Contains (live_children p v) u → (w : ℕ) → length p.tree.nodes ≤ w → slice_index_or (cells_of u) w None ≡ None
    past u found w high = get_or_past (cells_of u) w None (omega (arith, (is.chosen u found).placement.one_each))

    is_open : IsOpenBy p (pairs_of p (spliced p v own cells_of)) (past_cell (rep_of p.reps own) odd) (whole_fork p v) pick y
    is_open = record {
      chosen = λ u found.
          pair_alike p u (past_cell (rep_of p.reps own) odd) (cells_of u) cells (pick u) (spliced_below p v own cells_of u found (past u found))
          sound.placement sound.placed (is.chosen u found);
      wanted = is.wanted;
      joined = is.joined;
    }

    whole : IsPairOf p v odd (spliced p v own cells_of) (with_cell (rep_of p.reps own) y)
    whole =
        subst (λ (o : Option ℕ). IsPairOf p v odd cells (with_cell (rep_of p.reps o) y)) here
        (pair_whole p v odd cells pick y v_n sound.placement sound.placed (λ b e. may b (sym here ∙ e))
        (subst (λ (o : Option ℕ). IsOpenBy p (pairs_of p cells) (past_cell (rep_of p.reps o) odd) (whole_fork p v) pick y) (sym here) is_open))

-- THE OTHER WAY: what comes from pairs at the live children is a pair at the node
pub step_pair : (p : Problem) (v : ℕ) (odd : Bool) (x : Pair) → IsStep p (IsPairAt p) v odd x → IsPairAt p v odd x
step_pair p v odd x (own, y, may, (pick, is), x_is) = (
  spliced p v own (λ u. (each u).0),
  subst (IsPairOf p v odd (spliced p v own (λ u. (each u).0))) (sym x_is)
      (splice_pair p v odd own (λ u. (each u).0) pick y may (record { chosen = λ u found. (each u).1 found; wanted = is.wanted; joined = is.joined })),
)
  where
    each : (u : ℕ) → (cells : List (Option ℕ)) × (Contains (live_children p v) u → IsPairOf p u (past_cell (rep_of p.reps own) odd) cells (pick u))
    each = choose (live_children p v) (λ u cells. IsPairOf p u (past_cell (rep_of p.reps own) odd) cells (pick u)) (λ _. []) is.chosen
