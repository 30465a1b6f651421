-- Pairs with their costs: how they come from those of the children, covers up to a cap, and the frontier at the root.
use Rattle.std.proofs.Common.{◌≡◌, ℕ, zero, suc, ◌+◌, ◌<◌, ◌≤◌, Bool, true, false, not, List, [], ◌∷◌, length, slice_index_or, refl, sym, ap, ◌∙◌, subst, arith, Option, None}
use Rattle.std.proofs.lemmas.Bool.{false≢true}
use Rattle.std.proofs.lemmas.List.{get_or_past}
use Rattle.std.proofs.lemmas.List.Sums.{sum_by-cons}
use Rattle.std.specs.List.{Contains, filter, sum_by}
use Rattle.elmore.specs.Cells.{cell_at, rep_of, cell_cost}
use Rattle.elmore.specs.Laws.{children_of}
use Rattle.elmore.specs.Legal.{IsPlaced, IsWithin}
use Rattle.elmore.specs.Pairs.{IsPairOf, Dominates}
use Rattle.elmore.specs.Path.{is_over, nodes as node_numbers}
use Rattle.elmore.specs.PlacedLaws.{AreAlikeFrom}
use Rattle.elmore.specs.Placements.{IsPlacement, cost_of}
use Rattle.elmore.specs.Problems.{is_live}
use Rattle.elmore.specs.Trees.{parent_of}
use Rattle.elmore.specs.Wire.{downstream}
use Rattle.cand_pairs.specs.Candidates.{live_children, dead_children, own_capacitance, with_cell, past_cell}
use Rattle.cand_pairs.specs.Priced.{Priced, cost_below, IsPricedOf, IsPricedAt, Beats, with_price, IsPricedStep, IsPricedCover, PricedSets}
use Rattle.elmore.specs.declared.problem.Problem.{Problem}
use Rattle.elmore.proofs.SumLemmas.{sum_of_none, sum_of_items}
use Rattle.elmore.proofs.TreeLemmas.{tree_of}
use Rattle.elmore.proofs.WireLemmas.{downstream_root, downstream_children}
use Rattle.cand_pairs.proofs.ChildLemmas.{child_above, filter_parts}
use Rattle.cand_pairs.proofs.ChoiceLemmas.{choose, sum_alike_in, sum_le_in, sum_of_parts}
use Rattle.cand_pairs.proofs.LiveChildLemmas.{no_cell}
use Rattle.cand_pairs.proofs.PairPartLemmas.{live_child_parts, pair_parts}
use Rattle.cand_pairs.proofs.StepLemmas.{has_end, join_exists, join_over, cell_over, over_trans, may_less, within_less}
use Rattle.cand_pairs.proofs.SpliceLemmas.{spliced, spliced_here, spliced_below, join_within, splice_pair}
use Rattle.cand_pairs.proofs.CoverLemmas.{pair_within, pair_live, made_may}

-- COSTS by the children
dead_cost : (p : Problem) (cells : List (Option ℕ)) (u : ℕ) → IsPlaced p cells → is_live p.tree.nodes p.sinks u ≡ false → cost_below p cells u ≡ 0
unfolding downstream
dead_cost p cells u placed dead =
    sum_alike_in (λ w. cell_cost (cell_at p.reps cells w)) (λ _. 0) (filter (is_over (parent_of p.tree.nodes) u) (node_numbers (length p.tree.nodes)))
    (λ w found.
    let (among, over) = filter_parts (is_over (parent_of p.tree.nodes) u) (node_numbers (length p.tree.nodes)) w found in
    ap (λ (o : Option ℕ). cell_cost (rep_of p.reps o)) (no_cell p cells u w placed dead over))
    ∙ sum_of_none (filter (is_over (parent_of p.tree.nodes) u) (node_numbers (length p.tree.nodes)))

pub cost_children : (p : Problem) (cells : List (Option ℕ)) (v : ℕ) → IsPlaced p cells → v < length p.tree.nodes
    → cost_below p cells v ≡ cell_cost (cell_at p.reps cells v) + sum_by (cost_below p cells) (live_children p v)
cost_children p cells v placed v_n =
    omega (
      arith,
      downstream_children (parent_of p.tree.nodes) (length p.tree.nodes) (tree_of p.tree.nodes p.tree.a_tree) (λ u. cell_cost (cell_at p.reps cells u)) v v_n,
      sum_of_parts (cost_below p cells) (λ u. is_live p.tree.nodes p.sinks u) (children_of p.tree.nodes v),
      sum_alike_in (cost_below p cells) (λ _. 0) (dead_children p v) (λ u found.
          dead_cost p cells u placed
          (false_of (is_live p.tree.nodes p.sinks u) (filter_parts (λ u. not (is_live p.tree.nodes p.sinks u)) (children_of p.tree.nodes v) u found).1)),
      sum_of_none (dead_children p v),
    )
  where
    false_of : (b : Bool) → not b ≡ true → b ≡ false
    false_of true e = absurd (false≢true e)
    false_of false e = refl

cost_alike : (p : Problem) (v : ℕ) (a b : List (Option ℕ)) → AreAlikeFrom p.tree.nodes v a b → cost_below p a v ≡ cost_below p b v
unfolding downstream
cost_alike p v a b alike =
    sum_alike_in (λ w. cell_cost (cell_at p.reps a w)) (λ w. cell_cost (cell_at p.reps b w))
    (filter (is_over (parent_of p.tree.nodes) v) (node_numbers (length p.tree.nodes)))
    (λ w found.
    let (among, over) = filter_parts (is_over (parent_of p.tree.nodes) v) (node_numbers (length p.tree.nodes)) w found in
    ap (λ (o : Option ℕ). cell_cost (rep_of p.reps o)) (alike w over))

pub cost_root : (p : Problem) (cells : List (Option ℕ)) → IsPlacement p cells → cost_below p cells 0 ≡ cost_of p cells
unfolding cost_of
cost_root p cells placement =
    downstream_root (parent_of p.tree.nodes) (length p.tree.nodes) (tree_of p.tree.nodes p.tree.a_tree) (λ u. cell_cost (cell_at p.reps cells u))
    ∙ ap (λ (k : ℕ). sum_by (λ w. cell_cost (cell_at p.reps cells w)) (node_numbers k)) (sym placement.one_each)
    ∙ sum_of_items (λ cell. cell_cost (rep_of p.reps cell)) (λ _. None) cells

pub one_priced : (x y : Priced) → x.cost ≡ y.cost → x.pair ≡ y.pair → x ≡ y
one_priced x y e f = λ i. record { cost = e i; pair = f i }

-- DOWN: each pair with its cost comes from those at the live children
pub priced_steps : (p : Problem) (v : ℕ) (odd : Bool) (z : Priced) → IsPricedAt p v odd z → IsPricedStep p (IsPricedAt p) v odd z
priced_steps p v odd z (cells, is) =
    let (pick, y, made) = pair_parts p v odd cells z.pair (pair_within p v odd z.pair (cells, is.pair)) is.pair in
    let sum : ℕ = sum_by (cost_below p cells) (live_children p v) in (
      slice_index_or cells v None,
      record { cost = sum; pair = y },
      made_may p v odd cells z.pair pick y is.pair made,
      (
        λ u. record { cost = cost_below p cells u; pair = pick u },
        record {
          chosen = λ u found. (cells, record { pair = made.open_pair.chosen u found; cost = refl });
          wanted = made.open_pair.wanted;
          joined = made.open_pair.joined;
          cost = refl;
        },
      ),
      one_priced z (with_price (cell_at p.reps cells v) (record { cost = sum; pair = y }))
          (omega (arith, is.cost, cost_children p cells v is.pair.placed (pair_within p v odd z.pair (cells, is.pair))))
          made.made,
    )

-- AND UP
pub step_priced : (p : Problem) (v : ℕ) (odd : Bool) (z : Priced) → IsPricedStep p (IsPricedAt p) v odd z → IsPricedAt p v odd z
step_priced p v odd z (own, y, may, (pick, is), z_is) = (
  cells,
  subst (IsPricedOf p v odd cells) (sym z_is) (record {
    pair = whole;
    cost =
        omega (
          arith,
          is.cost,
          cost_children p cells v whole.placed v_n,
          ap (λ (o : Option ℕ). cell_cost (rep_of p.reps o)) (spliced_here p v own cells_of v_n),
          sum_alike_in (cost_below p cells) (λ u. (pick u).cost) (live_children p v) (λ u found.
              sym (((each u).1 found).cost ∙ cost_alike p u (cells_of u) cells (spliced_below p v own cells_of u found (past u found)))),
        );
  }),
)
  where
    each : (u : ℕ) → (cells : List (Option ℕ)) × (Contains (live_children p v) u → IsPricedOf p u (past_cell (rep_of p.reps own) odd) cells (pick u))
    each = choose (live_children p v) (λ u cells. IsPricedOf p u (past_cell (rep_of p.reps own) odd) cells (pick u)) (λ _. []) is.chosen

    cells_of : ℕ → List (Option ℕ)
    cells_of u = (each u).0

    cells : List (Option ℕ)
    cells = spliced p v own cells_of

    v_n : v < length p.tree.nodes
    v_n = join_within p v (own_capacitance p v) (λ u. (pick u).pair) y.pair is.joined

    past : (u : ℕ) → Contains (live_children p v) u → (w : ℕ) → length p.tree.nodes ≤ w → slice_index_or (cells_of u) w None ≡ None
    past u found w high = get_or_past (cells_of u) w None (omega (arith, ((each u).1 found).pair.placement.one_each))

    whole : IsPairOf p v odd cells (with_cell (rep_of p.reps own) y.pair)
    whole =
        splice_pair p v odd own cells_of (λ u. (pick u).pair) y.pair may
        (record { chosen = λ u found. ((each u).1 found).pair; wanted = is.wanted; joined = is.joined })

-- COVERS up to a cap
summand_in : (f : ℕ → ℕ) (xs : List ℕ) (u : ℕ) → Contains xs u → f u ≤ sum_by f xs
summand_in f [] u (k, k_n, e) = absurd (omega arith)
summand_in f (x ∷ xs) u (zero, k_n, e) = omega (arith, sum_by-cons f x xs, ap f e)
summand_in f (x ∷ xs) u (suc k, k_n, e) = omega (arith, sum_by-cons f x xs, summand_in f xs u (k, omega arith, e))

pub beats_trans : (x y z : Priced) → Beats y x → Beats z y → Beats z x
beats_trans x y z y_x z_y = record { cost = omega (arith, y_x.cost, z_y.cost); pair = over_trans x.pair y.pair z.pair y_x.pair z_y.pair }

abbrev pub IsPricedNoWorse : Problem → ℕ → Option ℕ → (ℕ → Bool → Priced → Type 0) → (ℕ → Bool → Priced → Type 0) → Type 0
IsPricedNoWorse p v cap A B =
    (u : ℕ) (odd : Bool) (x : Priced) → Contains (live_children p v) u → A u odd x → IsWithin cap x.cost → (y : Priced) × B u odd y × Beats y x

pub priced_over : (p : Problem) (cap : Option ℕ) (A B : PricedSets) (v : ℕ) (odd : Bool) (z : Priced) → IsPricedNoWorse p v cap A B
    → IsPricedStep p A v odd z → IsWithin cap z.cost → (y : Priced) × IsPricedStep p B v odd y × Beats y z
priced_over p cap A B v odd z no_worse (own, x, may, (pick, is), z_is) within =
    let (y, joined) = join_exists p v (own_capacitance p v) (live_children p v) (λ u. (other u).pair)
    (has_end p v (own_capacitance p v) (live_children p v) (λ u. (pick u).pair) x.pair is.joined) in
    let over : Dominates y x.pair = join_over p v (own_capacitance p v) (live_children p v) (λ u. (pick u).pair) (λ u. (other u).pair) x.pair y
    (λ u found. ((each u).1 found).1.pair) is.joined joined in
    let sum : ℕ = sum_by (λ u. (other u).cost) (live_children p v) in (
      with_price (rep_of p.reps own) (record { cost = sum; pair = y }),
      (
        own,
        record { cost = sum; pair = y },
        may_less p v own y.c x.pair.c over.room may,
        (
          other,
          record {
            chosen = λ u found. ((each u).1 found).0;
            wanted = is.wanted;
            joined = joined;
            cost = refl;
          },
        ),
        refl,
      ),
      subst (Beats (with_price (rep_of p.reps own) (record { cost = sum; pair = y }))) (sym z_is) (record {
        cost =
            omega (
              arith,
              is.cost,
              sum_le_in (λ (u : ℕ). (other u).cost) (λ (u : ℕ). (pick u).cost) (live_children p v) (λ u found. ((each u).1 found).1.cost),
            );
        pair =
            cell_over (rep_of p.reps own) x.pair y
            (join_over p v (own_capacitance p v) (live_children p v) (λ u. (pick u).pair) (λ u. (other u).pair) x.pair y
            (λ u found. ((each u).1 found).1.pair) is.joined joined);
      }),
    )
  where
    child_within : (u : ℕ) → Contains (live_children p v) u → IsWithin cap (pick u).cost
    child_within u found =
        within_less cap (pick u).cost z.cost
        (omega (arith, ap (λ (t : Priced). t.cost) z_is, is.cost, summand_in (λ (w : ℕ). (pick w).cost) (live_children p v) u found))
        within

    each : (u : ℕ) → (y : Priced) × (Contains (live_children p v) u → B u (past_cell (rep_of p.reps own) odd) y × Beats y (pick u))
    each =
        choose (live_children p v) (λ u y. B u (past_cell (rep_of p.reps own) odd) y × Beats y (pick u)) pick (λ u found.
        let (y, y_in, beats) = no_worse u (past_cell (rep_of p.reps own) odd) (pick u) found (is.chosen u found) (child_within u found) in
        (y, (y_in, beats)))

    other : ℕ → Priced
    other u = (each u).0

pub priced_cover_over : (p : Problem) (cap : Option ℕ) (In : PricedSets) → IsPricedCover p cap In
    → (v : ℕ) (odd : Bool) (z : Priced) → IsPricedAt p v odd z → IsWithin cap z.cost → (y : Priced) × In v odd y × Beats y z
priced_cover_over p cap In cover v = up_to (length p.tree.nodes) v (omega arith)
  where
    up_to : (k v : ℕ) → length p.tree.nodes ≤ v + k → (odd : Bool) (z : Priced) → IsPricedAt p v odd z → IsWithin cap z.cost
        → (y : Priced) × In v odd y × Beats y z
    up_to zero v low odd z (cells, is) within = absurd (omega (arith, pair_within p v odd z.pair (cells, is.pair)))
    up_to (suc k) v low odd z (cells, is) within =
        let no_worse : IsPricedNoWorse p v cap (IsPricedAt p) In = λ u o x found at.
        up_to k u (omega (arith, child_above p.tree.nodes p.tree.a_tree v u (live_child_parts p v u found).child)) o x at in
        let (y, y_step, y_z) = priced_over p cap (IsPricedAt p) In v odd z no_worse (priced_steps p v odd z (cells, is)) within in
        let (x, x_in, x_y) = cover v (pair_live p v odd z.pair (cells, is.pair)) odd y y_step (within_less cap y.cost z.cost y_z.cost within) in
        (x, x_in, beats_trans z y x y_z x_y)
