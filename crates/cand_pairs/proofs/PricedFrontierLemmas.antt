-- The frontier from the pairs with their costs at the root.
use Rattle.std.proofs.Common.{◌≡◌, ℕ, zero, suc, ◌+◌, ◌<◌, ◌≤◌, Bool, false, List, length, get_or, refl, sym, ap, ◌∙◌, subst, arith, inl, inr, ℤ, Option}
use Rattle.std.proofs.lemmas.Bool.{cases_order}
use Rattle.std.proofs.lemmas.Int.{ints}
use Rattle.std.proofs.lemmas.List.{get_or_default}
use Rattle.std.proofs.Math.Nat.{mul-le-mul_left}
use Rattle.std.specs.List.{Contains, AllPairs}
use Rattle.elmore.specs.Frontier.{Point, IsAttained, IsFrontier, Outdoes}
use Rattle.elmore.specs.FrontierLaws.{Exceeds}
use Rattle.elmore.specs.Legal.{IsWithin}
use Rattle.elmore.specs.Placements.{IsSlack, cost_of}
use Rattle.cand_pairs.specs.Candidates.{live_children, root_value, IsLive}
use Rattle.cand_pairs.specs.Priced.{Priced, cost_below, IsPricedAt, Beats, IsPricedStep, IsPricedCover, IsPricedSound, IsPricedPart, point_of, ArePointsOf, PricedSets, Counts}
use Rattle.elmore.specs.declared.problem.Problem.{Problem}
use Rattle.cand_pairs.proofs.ChildLemmas.{child_above}
use Rattle.cand_pairs.proofs.PairPartLemmas.{IsLiveChild, live_child_parts}
use Rattle.cand_pairs.proofs.CoverLemmas.{root_pairs, root_live}
use Rattle.cand_pairs.proofs.PricedLemmas.{cost_root, step_priced, priced_cover_over}
use Rattle.cand_pairs.proofs.StepLemmas.{within_less}

one_slack : (p : Problem) (cells : List (Option ℕ)) (x y : ℤ) → IsSlack p cells x → IsSlack p cells y → x ≡ y
one_slack p cells x y is_x is_y =
    let (w, sink, here, e) = is_x.met in
    let (u, other, there, d) = is_y.met in
    omega (arith, ints, e, d, is_y.least w sink here, is_x.least u other there)

one_point : (x y : Point) → x.cost ≡ y.cost → x.slack ≡ y.slack → x ≡ y
one_point x y e f = λ i. record { cost = e i; slack = f i }

-- what beats a pair that counts counts
counts_less : (p : Problem) (cap : Option ℕ) (y z : Priced) → Beats y z → Counts p cap z → Counts p cap y
counts_less p cap y z beats counts = record {
  within = within_less cap y.cost z.cost beats.cost counts.within;
  drives = within_less p.driver.limit y.pair.c z.pair.c beats.pair.room counts.drives;
}

-- the points of the even pairs at the root that count are those of good placements
pub root_attained : (p : Problem) (cap : Option ℕ) (z : Priced) → IsPricedAt p 0 false z → Counts p cap z → IsAttained p cap (point_of p z)
root_attained p cap z (cells, is) counts =
    let costs : z.cost ≡ cost_of p cells = is.cost ∙ cost_root p cells is.pair.placement in (
      cells,
      record {
        good = (root_pairs p cells).good z.pair is.pair counts.drives;
        within = subst (IsWithin cap) costs counts.within;
        costs = costs;
        slacks = (root_pairs p cells).slack z.pair is.pair;
      },
    )

pub attained_root : (p : Problem) (cap : Option ℕ) (point : Point) → IsAttained p cap point
    → (z : Priced) × IsPricedAt p 0 false z × Counts p cap z × (point ≡ point_of p z)
attained_root p cap point (cells, is) =
    let (x, pair, drives) = (root_pairs p cells).pair is.good in
    let costs : cost_below p cells 0 ≡ cost_of p cells = cost_root p cells is.good.placement in (
      record { cost = cost_below p cells 0; pair = x },
      (cells, record { pair = pair; cost = refl }),
      record { within = subst (IsWithin cap) (sym costs) is.within; drives = drives },
      one_point point (point_of p (record { cost = cost_below p cells 0; pair = x }))
          (is.costs ∙ sym costs)
          (one_slack p cells point.slack (root_value p x) is.slacks ((root_pairs p cells).slack x pair)),
    )

outdoes_root : (p : Problem) (y z : Priced) → Beats y z → Outdoes (point_of p y) (point_of p z)
outdoes_root p y z beats = record {
  costs = beats.cost;
  slacks = omega (arith, ints, beats.pair.time, mul-le-mul_left p.driver.r beats.pair.room);
}

outdoes_trans : (x y z : Point) → Outdoes x y → Outdoes y z → Outdoes x z
outdoes_trans x y z x_y y_z = record { costs = omega (arith, x_y.costs, y_z.costs); slacks = omega (arith, ints, x_y.slacks, y_z.slacks) }

-- of two points of a list that rises, the one that outdoes the other is the other
no_other : (points : List Point) (i j : ℕ) (d : Point) → AllPairs Exceeds points → i < length points → j < length points
    → Outdoes (get_or points i d) (get_or points j d) → i ≡ j
no_other points i j d rising i_n j_n over =
    elim (cases_order i j) [
      | inl e ↦ e
      | inr other ↦ elim other [
        | inl i_j ↦ let more : Exceeds (get_or points i d) (get_or points j d) = rising i j d i_j j_n in absurd (omega (arith, ints, more.slacks, over.slacks))
        | inr j_i ↦ let more : Exceeds (get_or points j d) (get_or points i d) = rising j i d j_i i_n in absurd (omega (arith, more.costs, over.costs))
      ]
    ]

-- pairs that all come from the children's are those of placements
pub priced_sound : (p : Problem) (In : PricedSets) → IsPricedSound p In
    → (v : ℕ) → IsLive p v → (odd : Bool) (z : Priced) → In v odd z → IsPricedAt p v odd z
priced_sound p In sound v live odd z found = up_to (length p.tree.nodes) v (omega arith) live odd z found
  where
    part : (v : ℕ) (odd : Bool) (z : Priced) → ((u : ℕ) → Contains (live_children p v) u → (o : Bool) (x : Priced) → In u o x → IsPricedAt p u o x)
        → IsPricedStep p In v odd z → IsPricedStep p (IsPricedAt p) v odd z
    part v odd z below (own, y, may, (pick, is), z_is) = (
      own,
      y,
      may,
      (
        pick,
        record {
          chosen = λ u u_in. below u u_in _ (pick u) (is.chosen u u_in);
          wanted = is.wanted;
          joined = is.joined;
          cost = is.cost;
        },
      ),
      z_is,
    )

    up_to : (k v : ℕ) → length p.tree.nodes ≤ v + k → IsLive p v → (odd : Bool) (z : Priced) → In v odd z → IsPricedAt p v odd z
    up_to zero v low live odd z found =
        step_priced p v odd z (part v odd z (λ u u_in o x x_in.
        let child : IsLiveChild p v u = live_child_parts p v u u_in in
        absurd (omega (arith, child_above p.tree.nodes p.tree.a_tree v u child.child, child.child.node))) (sound v live odd z found))
    up_to (suc k) v low live odd z found =
        step_priced p v odd z (part v odd z (λ u u_in o x x_in.
        let child : IsLiveChild p v u = live_child_parts p v u u_in in
        up_to k u (omega (arith, child_above p.tree.nodes p.tree.a_tree v u child.child)) child.live o x x_in) (sound v live odd z found))

-- THE FRONTIER
pub part_frontier : (p : Problem) (cap : Option ℕ) (In : PricedSets) (points : List Point)
    → IsPricedPart cap (In 0 false) (IsPricedAt p 0 false) → ArePointsOf p cap In points → IsFrontier (IsAttained p cap) points
part_frontier p cap In points part are = record {
  rising = λ i j d i_j j_n. (are.rising i j d i_j j_n).costs;
  taken = λ k d k_n. record {
    attained =
        let (z, z_in, counts, is) = are.taken k d k_n in
        subst (IsAttained p cap) (sym is) (root_attained p cap z (part.part z z_in) counts);
    alone = λ other attained outdoes.
        let (front, (j, j_n, is), over) = covered other attained in
        let at_j : get_or points j d ≡ front = get_or_default points j d front j_n ∙ is in
        let over_k : Outdoes (get_or points j d) (get_or points k d) =
        subst (λ (x : Point). Outdoes x (get_or points k d)) (sym at_j) (outdoes_trans front other (get_or points k d) over outdoes) in
        let same : get_or points k d ≡ front = ap (λ (i : ℕ). get_or points i d) (sym (no_other points j k d are.rising j_n k_n over_k)) ∙ at_j in
        one_point other (get_or points k d)
        (omega (arith, over.costs, outdoes.costs, ap (λ (x : Point). x.cost) same))
        (omega (arith, ints, over.slacks, outdoes.slacks, ap (λ (x : Point). x.slack) same));
  };
  covers = covered;
}
  where
    covered : (point : Point) → IsAttained p cap point → (other : Point) × Contains points other × Outdoes other point
    covered point attained =
        let (z, z_at, counts, is) = attained_root p cap point attained in
        let (y, y_in, beats) = part.covers z z_at counts.within in
        let (front, found, over) = are.covers y y_in (counts_less p cap y z beats counts) in
        (front, found, outdoes_trans front (point_of p y) point over (subst (Outdoes (point_of p y)) (sym is) (outdoes_root p y z beats)))

pub priced_frontier : (p : Problem) (cap : Option ℕ) (In : PricedSets) (points : List Point)
    → IsPricedSound p In → IsPricedCover p cap In → ArePointsOf p cap In points → IsFrontier (IsAttained p cap) points
priced_frontier p cap In points sound cover are =
    part_frontier p cap In points
    (record { part = λ z z_in. priced_sound p In sound 0 (root_live p) false z z_in; covers = λ z z_at within. priced_cover_over p cap In cover 0 false z z_at within })
    are
