-- Covers: a set that covers what comes from it covers the pairs of all placements, and bounds their slacks.
use Rattle.std.proofs.Common.{◌≡◌, ℕ, zero, suc, ◌+◌, ◌*◌, ◌<◌, ◌≤◌, Bool, true, false, List, length, slice_index_or, refl, sym, ap, ◌∙◌, arith, ℤ, ◌≤ℤ◌, Option, Some, None, inl, inr, subst}
use Rattle.std.proofs.lemmas.Int.{ints}
use Rattle.std.proofs.lemmas.Bool.{cases_lt, false≢true}
use Rattle.std.proofs.lemmas.List.{get_or_past}
use Rattle.std.proofs.Math.Nat.{mul-le-mul_left}
use Rattle.std.specs.List.{Contains}
use Rattle.elmore.specs.Best.{IsGood, IsBest}
use Rattle.elmore.specs.Cells.{rep_of}
use Rattle.elmore.specs.Delay.{is_odd}
use Rattle.elmore.specs.Legal.{IsPlaced, MayHave, IsWithin}
use Rattle.elmore.specs.Pairs.{IsSinkUnder, IsPairOf, IsPairAt, IsUndominated, class_of}
use Rattle.elmore.specs.Placements.{IsSinkAt, IsSlack, load_of, input_load_of, inverters_between, is_inverted, IsPlacement}
use Rattle.elmore.specs.Problems.{is_live}
use Rattle.elmore.specs.Stage.{seen}
use Rattle.elmore.specs.Trees.{parent_of}
use Rattle.cand_pairs.specs.CandidateLaws.{AreRootPairs}
use Rattle.cand_pairs.specs.Candidates.{IsStep, IsCover, IsBoundedBy, root_value, PairSets, Drives, at_root, IsLive, IsCoveredBy, DrivesNone}
use Rattle.elmore.specs.declared.parts.Sink.{Sink}
use Rattle.elmore.specs.declared.pair.Pair.{Pair}
use Rattle.elmore.specs.declared.problem.Problem.{Problem}
use Rattle.elmore.proofs.PathLemmas.{over_le, over_self}
use Rattle.elmore.proofs.RootLemmas.{root_over}
use Rattle.elmore.proofs.TreeLemmas.{tree_falls, tree_of}
use Rattle.elmore.proofs.LeastLemmas.{within_sinks, some_sink}
use Rattle.elmore.proofs.LegalLemmas.{legal_placed}
use Rattle.cand_pairs.proofs.ChildLemmas.{child_above}
use Rattle.cand_pairs.proofs.LiveChildLemmas.{sink_live, input_load_is}
use Rattle.cand_pairs.proofs.PairPartLemmas.{live_child_parts, pair_exists, pair_parts, IsMadeOf, AreFit, IsFitAt}
use Rattle.cand_pairs.proofs.StepLemmas.{IsNoWorse, step_over, over_trans, within_less}

-- a node with a pair is a live node of the tree
pub pair_within : (p : Problem) (v : ℕ) (odd : Bool) (x : Pair) → IsPairAt p v odd x → v < length p.tree.nodes
pair_within p v odd x (cells, is) =
    let (w, sink, under, e) = is.met in
    omega (
      arith,
      over_le (parent_of p.tree.nodes) (tree_falls p.tree.nodes p.tree.a_tree) v w under.under,
      within_sinks p.sinks w sink under.there,
      p.sinks_each,
    )

pub pair_live : (p : Problem) (v : ℕ) (odd : Bool) (x : Pair) → IsPairAt p v odd x → IsLive p v
pair_live p v odd x (cells, is) = let (w, sink, under, e) = is.met in sink_live p v w sink under.there under.under

-- a placement's own cell at v may stand there, for the load of its choice
pub made_may : (p : Problem) (v : ℕ) (odd : Bool) (cells : List (Option ℕ)) (x : Pair) (pick : ℕ → Pair) (y : Pair) → IsPairOf p v odd cells x
    → IsMadeOf p v odd cells x pick y → MayHave p v (slice_index_or cells v None) y.c
made_may p v odd cells x pick y is made =
    subst (MayHave p v (slice_index_or cells v None)) (sym made.load) (is.fits v (over_self (parent_of p.tree.nodes) (tree_falls p.tree.nodes p.tree.a_tree) v))

-- each pair at a node comes from pairs at its live children
pub pair_steps : (p : Problem) (v : ℕ) (odd : Bool) (x : Pair) → IsPairAt p v odd x → IsStep p (IsPairAt p) v odd x
pair_steps p v odd x (cells, is) =
    let (pick, y, made) = pair_parts p v odd cells x (pair_within p v odd x (cells, is)) is in (
      slice_index_or cells v None,
      y,
      made_may p v odd cells x pick y is made,
      (
        pick,
        record {
          chosen = λ u found. (cells, made.open_pair.chosen u found);
          wanted = made.open_pair.wanted;
          joined = made.open_pair.joined;
        },
      ),
      made.made,
    )

-- so a cover has a pair that dominates it
pub cover_over : (p : Problem) (In : PairSets) → IsCover p In
    → (v : ℕ) (odd : Bool) (x : Pair) → IsPairAt p v odd x → IsCoveredBy (In v odd) x
cover_over p In cover v = up_to (length p.tree.nodes) v (omega arith)
  where
    up_to : (k v : ℕ) → length p.tree.nodes ≤ v + k → (odd : Bool) (x : Pair) → IsPairAt p v odd x → IsCoveredBy (In v odd) x
    up_to zero v low odd x is = absurd (omega (arith, pair_within p v odd x is))
    up_to (suc k) v low odd x is =
        let no_worse : IsNoWorse p v (IsPairAt p) In = λ u o z found at.
        up_to k u (omega (arith, child_above p.tree.nodes p.tree.a_tree v u (live_child_parts p v u found).child)) o z at in
        let (y, y_step, y_x) = step_over p (IsPairAt p) In v odd x no_worse (pair_steps p v odd x is) in
        let (z, z_in, z_y) = cover v (pair_live p v odd x is) odd y y_step in
        (z, z_in, over_trans x y z y_x z_y)

-- the pairs at the root
root_free : (p : Problem) (cells : List (Option ℕ)) → IsPlaced p cells → slice_index_or cells 0 None ≡ None
root_free p cells placed = go (slice_index_or cells 0 None) (placed 0)
  where
    go : (o : Option ℕ) → ((b : ℕ) → o ≡ Some b → slice_index_or p.places 0 false ≡ true) → o ≡ None
    go None at = refl
    go (Some b) at = absurd (false≢true (sym p.places_are.root ∙ at b refl))

root_input_load : (p : Problem) (cells : List (Option ℕ)) → IsPlaced p cells → input_load_of p cells 0 ≡ load_of p cells 0
root_input_load p cells placed =
    input_load_is p cells 0 ∙ ap (λ (o : Option ℕ). seen (rep_of p.reps o) (load_of p cells 0)) (root_free p cells placed)

root_under : (p : Problem) (w : ℕ) (sink : Sink) → IsSinkAt p w sink → IsSinkUnder p 0 w sink
root_under p w sink here = record {
  there = here;
  under = root_over (parent_of p.tree.nodes) (length p.tree.nodes) (tree_of p.tree.nodes p.tree.a_tree) w (omega (arith, within_sinks p.sinks w sink here, p.sinks_each));
}

pub root_live : (p : Problem) → is_live p.tree.nodes p.sinks 0 ≡ true
root_live p = let (w, sink, here) = some_sink p.sinks p.some_sink in sink_live p 0 w sink here (root_under p w sink here).under

-- the driver's signal is not inverted
root_class : (p : Problem) (cells : List (Option ℕ)) (w : ℕ) → is_odd (class_of false + inverters_between p cells 0 w) ≡ is_inverted p cells w
root_class p cells w =
    let same : 0 + inverters_between p cells 0 w ≡ inverters_between p cells 0 w = omega arith in
    ap is_odd same

charged : (p : Problem) (cells : List (Option ℕ)) (x : Pair) → IsPairOf p 0 false cells x → p.driver.r * x.c ≡ p.driver.r * load_of p cells 0
charged p cells x is = ap (λ (k : ℕ). p.driver.r * k) (is.load ∙ root_input_load p cells is.placed)

-- what fits at and below the root fits everywhere
root_fits : (p : Problem) (cells : List (Option ℕ)) → IsPlacement p cells → AreFit p 0 cells → (u : ℕ) → IsFitAt p cells u
root_fits p cells placement fits u = elim (cases_lt u (length p.tree.nodes)) [
  | inl low ↦ fits u (root_over (parent_of p.tree.nodes) (length p.tree.nodes) (tree_of p.tree.nodes p.tree.a_tree) u low)
  | inr high ↦ λ b here. absurd (let clash : None ≡ Some b = sym (get_or_past cells u None (omega (arith, placement.one_each))) ∙ here in cc)
]

-- the driver charges the load of the root's pair
root_load : (p : Problem) (cells : List (Option ℕ)) (x : Pair) → IsPairOf p 0 false cells x → x.c ≡ load_of p cells 0
root_load p cells x is = is.load ∙ root_input_load p cells is.placed

pub root_pairs : (p : Problem) (cells : List (Option ℕ)) → AreRootPairs p cells
root_pairs p cells = record {
  good = λ x is drives. record {
    placement = is.placement;
    legal = λ u. record {
      cell = root_fits p cells is.placement is.fits u;
      driver = λ e. subst (λ (k : ℕ). IsWithin p.driver.limit (load_of p cells k)) (sym e) (subst (IsWithin p.driver.limit) (root_load p cells x is) drives);
    };
    wanted = λ w sink here. sym (root_class p cells w) ∙ is.wanted w sink (root_under p w sink here);
  };
  slack = λ x is. record {
    least = λ w sink here. omega (arith, ints, is.least w sink (root_under p w sink here), charged p cells x is);
    met =
        let (w, sink, under, e) = is.met in
        (w, sink, under.there, omega (arith, ints, e, charged p cells x is));
  };
  pair = λ good.
      let (x, is) = pair_exists p cells 0 false good.placement (legal_placed p cells (load_of p cells) good.legal) (λ w sink under. root_class p cells w ∙ good.wanted w sink under.there)
      (λ u _. (good.legal u).cell) (root_live p) in
      (x, is, subst (IsWithin p.driver.limit) (sym (root_load p cells x is)) ((good.legal 0).driver refl));
}

-- THE BOUND
pub cover_most : (p : Problem) (In : PairSets) (most : ℤ) → IsCover p In → IsBoundedBy p (at_root In) most
    → (cells : List (Option ℕ)) (x : ℤ) → IsGood p cells → IsSlack p cells x → x ≤ℤ most
cover_most p In most cover bounded cells x good slack =
    let (y, is, drives) = (root_pairs p cells).pair good in
    let (z, z_in, over) = cover_over p In cover 0 false y (cells, is) in
    let (w, sink, here, e) = ((root_pairs p cells).slack y is).met in
    omega (arith, ints, bounded z z_in (within_less p.driver.limit z.c y.c over.room drives), slack.least w sink here, e, over.time, mul-le-mul_left p.driver.r over.room)

pub cover_none : (p : Problem) (In : PairSets) → IsCover p In → DrivesNone p (at_root In)
    → (cells : List (Option ℕ)) → IsGood p cells → ⊥
cover_none p In cover empty cells good =
    let (y, is, drives) = (root_pairs p cells).pair good in
    let (z, z_in, over) = cover_over p In cover 0 false y (cells, is) in
    empty z z_in (within_less p.driver.limit z.c y.c over.room drives)

-- a placement of the greatest worth is best
pub root_best : (p : Problem) (xs : List Pair) (cells : List (Option ℕ)) (x : Pair) → IsUndominated (IsPairAt p 0 false) xs
    → IsPairOf p 0 false cells x → Drives p x → IsBoundedBy p (Contains xs) (root_value p x) → IsBest p cells (root_value p x)
root_best p xs cells x exact is drives most = record {
  good = (root_pairs p cells).good x is drives;
  slack = (root_pairs p cells).slack x is;
  most = λ others s good slack.
      let (y, at, drive) = (root_pairs p others).pair good in
      let (z, z_in, over) = exact.covers y (others, at) in
      let (w, sink, here, e) = ((root_pairs p others).slack y at).met in
      omega (arith, ints, most z z_in (within_less p.driver.limit z.c y.c over.room drive), slack.least w sink here, e, over.time, mul-le-mul_left p.driver.r over.room);
}
