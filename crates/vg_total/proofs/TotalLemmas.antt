-- Sums of costs, totals, and why choices among frontiers serve for all choices.
use Rattle.std.proofs.Common.{◌≡◌, ℕ, zero, suc, ◌+◌, ◌<◌, ◌≤◌, List, ℤ, ◌≤ℤ◌, Option, Some, None, refl, ap, subst, arith, inl, inr, get_or}
use Rattle.std.proofs.lemmas.Bool.{cases_lt, cases_eq}
use Rattle.std.proofs.lemmas.Int.{ints, by_lt_z}
use Rattle.std.proofs.lemmas.List.Elements.{All-contains}
use Rattle.std.specs.List.{Contains, sum_by}
use Rattle.elmore.specs.Path.{nodes}
use Rattle.elmore.specs.Legal.{IsWithin}
use Rattle.elmore.specs.Frontier.{Point, Outdoes, IsAttained, IsFrontier, IsOnFrontier}
use Rattle.elmore.proofs.SumLemmas.{sum_of_more, summand_le}
use Rattle.elmore.specs.declared.problem.Problem.{Problem}
use Rattle.vg_total.specs.Totals.{IsTotalOf, IsTotalBy, IsTotal, IsListed, IsAttainedAt, IsTotalFrontier}

-- sums by their summands
pub sums_le : (f g : ℕ → ℕ) (n : ℕ) → ((k : ℕ) → k < n → f k ≤ g k) → sum_by f (nodes n) ≤ sum_by g (nodes n)
sums_le f g zero le = omega arith
sums_le f g (suc n) le =
    let at : suc n ≡ n + 1 = omega arith in
    omega (arith, ap (λ m. sum_by f (nodes m)) at, ap (λ m. sum_by g (nodes m)) at, sum_of_more f n, sum_of_more g n, le n (omega arith), sums_le f g n (λ k h. le k (omega arith)))

pub sums_less : (f g : ℕ → ℕ) (n i : ℕ) → i < n → f i < g i → ((k : ℕ) → k < n → f k ≤ g k) → sum_by f (nodes n) < sum_by g (nodes n)
sums_less f g zero i i_n less le = absurd (omega arith)
sums_less f g (suc n) i i_n less le =
    let at : suc n ≡ n + 1 = omega arith in
    elim (cases_eq i n) [
      | inl e ↦
          let last : f n < g n = subst (λ k. f k < g k) e less in
          omega (arith, ap (λ m. sum_by f (nodes m)) at, ap (λ m. sum_by g (nodes m)) at, sum_of_more f n, sum_of_more g n, last, sums_le f g n (λ k h. le k (omega arith)))
      | inr ne ↦
          omega (arith, ap (λ m. sum_by f (nodes m)) at, ap (λ m. sum_by g (nodes m)) at, sum_of_more f n, sum_of_more g n, le n (omega arith), sums_less f g n i (omega arith) less (λ k h. le k (omega arith)))
    ]

-- some points have a total
pub some_total : (n : ℕ) → 0 < n → (choice : ℕ → Point) → (x : Point) × IsTotalOf n choice x
some_total n some choice = let (slack, below, met) = smallest n some in (record { cost = sum_by (λ k. (choice k).cost) (nodes n); slack = slack }, record { cost = refl; least = record { below = below; met = met } })
  where
    smallest : (m : ℕ) → 0 < m → (s : ℤ) × ((k : ℕ) → k < m → s ≤ℤ (choice k).slack) × ((k : ℕ) × (k < m) × (s ≡ (choice k).slack))
    smallest zero h = absurd (omega arith)
    smallest (suc zero) h = ((choice 0).slack, (λ k k_m. let e : k ≡ 0 = omega arith in omega (arith, ints, ap (λ j. (choice j).slack) e)), (0, omega arith, refl))
    smallest (suc (suc m)) h =
        let (s, below, (i, i_m, met)) = smallest (suc m) (omega arith) in
        by_lt_z (choice (suc m)).slack s
        (λ less. (
          (choice (suc m)).slack,
          (λ k k_m. elim (cases_eq k (suc m)) [
            | inl e ↦ omega (arith, ints, ap (λ j. (choice j).slack) e)
            | inr ne ↦ omega (arith, ints, below k (omega arith))
          ]),
          (suc m, omega arith, refl),
        ))
        (λ no_less. (
          s,
          (λ k k_m. elim (cases_eq k (suc m)) [
            | inl e ↦ omega (arith, ints, ap (λ j. (choice j).slack) e)
            | inr ne ↦ below k (omega arith)
          ]),
          (i, omega arith, met),
        ))

-- points that cost no more and have no less slack come to a total that does
pub totals_outdo : (n : ℕ) (a b : ℕ → Point) (x y : Point) → ((k : ℕ) → k < n → Outdoes (a k) (b k)) → IsTotalOf n a x → IsTotalOf n b y → Outdoes x y
totals_outdo n a b x y better of_a of_b =
    let (i, i_n, met) = of_a.least.met in
    record {
      costs = omega (arith, of_a.cost, of_b.cost, sums_le (λ k. (a k).cost) (λ k. (b k).cost) n (λ k k_n. (better k k_n).costs));
      slacks = omega (arith, ints, met, of_b.least.below i i_n, (better i i_n).slacks);
    }

pub one_point : (a b : Point) → a.cost ≡ b.cost → a.slack ≡ b.slack → a ≡ b
one_point a b costs slacks = λ i. record { cost = costs i; slack = slacks i }

-- what covers a set and comes from it has the set's frontier
pub one_frontier : (In Of : Point → Type 0) (points : List Point)
    → ((x : Point) → Of x → In x) → ((y : Point) → In y → (x : Point) × Of x × Outdoes x y) → IsFrontier Of points → IsFrontier In points
one_frontier In Of points inside covers f = record {
  rising = f.rising;
  taken = λ k d k_n. record {
    attained = inside (get_or points k d) (f.taken k d k_n).attained;
    alone = λ other other_in outdoes.
        let (x, x_of, x_other) = covers other other_in in
        let same : x ≡ get_or points k d = (f.taken k d k_n).alone x x_of (record { costs = omega (arith, x_other.costs, outdoes.costs); slacks = omega (arith, ints, x_other.slacks, outdoes.slacks) }) in
        one_point other (get_or points k d)
        (omega (arith, ap (λ (t : Point). t.cost) same, x_other.costs, outdoes.costs))
        (omega (arith, ints, ap (λ (t : Point). t.slack) same, x_other.slacks, outdoes.slacks));
  };
  covers = λ y y_in.
      let (x, x_of, x_y) = covers y y_in in
      let (z, z_in, z_x) = f.covers x x_of in
      (z, z_in, record { costs = omega (arith, x_y.costs, z_x.costs); slacks = omega (arith, ints, x_y.slacks, z_x.slacks) });
}

under : {a b : ℕ} (o : Option ℕ) → IsWithin o a → b ≤ a → IsWithin o b
under None within le = tt
under (Some most) within le = omega (arith, within, le)

-- of each net some point of the frontier serves
serving : (n : ℕ) (problems : ℕ → Problem) (fronts : ℕ → List Point) (cap : Option ℕ) (choice : ℕ → Point) (y : Point)
    → ((k : ℕ) → k < n → IsFrontier (IsAttained (problems k) cap) (fronts k)) → IsTotalBy n (IsAttainedAt problems) cap choice y
    → (k : ℕ) → (k < n → IsAttained (problems k) cap (choice k))
serving n problems fronts cap choice y frontiers by k k_n =
    let (cells, point) = by.chosen k k_n in
    (cells, record { good = point.good; within = under cap by.within (omega (arith, point.costs, by.total.cost, summand_le (λ j. (choice j).cost) k n k_n)); costs = point.costs; slacks = point.slacks })

pub total_of_all : (n : ℕ) (problems : ℕ → Problem) (fronts : ℕ → List Point) (cap : Option ℕ) (points : List Point)
    → ((k : ℕ) → k < n → IsFrontier (IsAttained (problems k) cap) (fronts k))
    → IsFrontier (IsTotal n (IsListed fronts) cap) points → IsTotalFrontier n problems cap points
total_of_all n problems fronts cap points frontiers f =
    one_frontier (IsTotal n (IsAttainedAt problems) cap) (IsTotal n (IsListed fronts) cap) points
    (λ x (choice, by). (
      choice,
      record {
        chosen = λ k k_n. let (cells, point) = (All-contains (IsOnFrontier (IsAttained (problems k) cap)) (fronts k) (choice k) (frontiers k k_n).taken (by.chosen k k_n)).attained in
            (cells, record { good = point.good; within = tt; costs = point.costs; slacks = point.slacks });
        total = by.total;
        within = by.within;
      },
    ))
    (λ y (choice, by).
    let (x, of_x) = some_total n (some_net by.total.least.met) (λ k. (serve choice y by k).0) in
    let outdoes : Outdoes x y = totals_outdo n (λ k. (serve choice y by k).0) choice x y (λ k k_n. ((serve choice y by k).1 k_n).1) of_x by.total in (
      x,
      (
        (λ k. (serve choice y by k).0),
        record {
          chosen = λ k k_n. ((serve choice y by k).1 k_n).0;
          total = of_x;
          within = under cap by.within outdoes.costs;
        },
      ),
      outdoes,
    ))
    f
  where
    some_net : {a : ℤ} {b : ℕ → ℤ} → (k : ℕ) × (k < n) × (a ≡ b k) → 0 < n
    some_net (k, k_n, e) = omega arith

    serve : (choice : ℕ → Point) (y : Point) → IsTotalBy n (IsAttainedAt problems) cap choice y
        → (k : ℕ) → (x : Point) × (k < n → (Contains (fronts k) x × Outdoes x (choice k)))
    serve choice y by k =
        elim (cases_lt k n) [
          | inl k_n ↦ let (x, x_in, x_y) = (frontiers k k_n).covers (choice k) (serving n problems fronts cap choice y frontiers by k k_n) in (x, λ _. (x_in, x_y))
          | inr past ↦ (choice k, λ k_n. absurd (omega arith))
        ]
