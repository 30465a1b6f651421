-- The point of a frontier that a repair takes.
use Rattle.std.proofs.Common.{◌≡◌, ℕ, ◌+◌, ◌<◌, ◌≤◌, List, [], map, length, get_or, refl, sym, ap, ◌∙◌, subst, arith, inl, inr, Option, ℤ, ◌≤ℤ◌}
use Rattle.std.proofs.lemmas.Bool.{cases_lt, cases_order}
use Rattle.std.proofs.lemmas.Int.{ints, by_lt_z}
use Rattle.std.proofs.lemmas.List.{get_or-map, length-map}
use Rattle.elmore.specs.Frontier.{Point as Corner, IsAttained, IsPointOf}
use Rattle.elmore.specs.FrontierLaws.{Exceeds}
use Rattle.elmore.specs.Placements.{cost_of}
use Rattle.elmore.specs.declared.problem.Problem.{Problem}
use Rattle.elmore.proofs.FrontierLemmas.{rises}
use Rattle.cand_pairs.specs.Candidates.{root_value}
use Rattle.cand_pairs.proofs.CoverLemmas.{root_pairs}
use Rattle.vg_front.specs.Points.{IsFrontierOf, point_in}
use Rattle.vg_front.specs.declared.root.Point.{Point}
use Rattle.vg_slack.specs.Bests.{IsBare, NoneIsBare}
use Rattle.vg_repair.specs.Picks.{IsPick}
use Rattle.vg_repair.specs.Repairs.{IsEnough, IsGoodWithin, NeedsCells, IsCheapest, IsNearest, IsRepair, HasNoneWithin}
use Rattle.vg_repair.proofs.RepairLemmas.{bare_least, bare_good}

-- the point of number k costs no more and has no less slack
record Covers (points : List Point) (d : Point) (cost : ℕ) (x : ℤ) (k : ℕ) : Type 0 where
  pub low : k < length points
  pub costs : (get_or points k d).cost ≤ cost
  pub slacks : x ≤ℤ (get_or points k d).slack

module _ (p : Problem) (cap : Option ℕ) (points : List Point) (front : IsFrontierOf p cap points) (d : Point) where
  at_number : (k : ℕ) (e : Corner) → k < length points → get_or (map point_in points) k e ≡ point_in (get_or points k d)
  at_number k e low = get_or-map point_in points k d e low

  covered : (cells : List (Option ℕ)) (x : ℤ) → IsGoodWithin p cap cells x → (k : ℕ) × Covers points d (cost_of p cells) x k
  covered cells x good =
      let corner : Corner = record { cost = cost_of p cells; slack = x } in
      let (other, (k, low, is), over) =
      front.frontier.covers corner (cells, record { good = good.good.good; within = good.within; costs = refl; slacks = good.good.slack }) in
      let within : k < length points = omega (arith, low, length-map points point_in) in
      let same : point_in (get_or points k d) ≡ other = sym (at_number k other within) ∙ is in (
        k,
        record {
          low = within;
          costs = omega (arith, over.costs, ap (λ (c : Corner). c.cost) same);
          slacks = omega (arith, ints, over.slacks, ap (λ (c : Corner). c.slack) same);
        },
      )

  rising : (i j : ℕ) → i < j → j < length points → Exceeds (point_in (get_or points i d)) (point_in (get_or points j d))
  rising i j before low =
      let within : j < length (map point_in points) = omega (arith, low, length-map points point_in) in
      subst (λ (c : Corner). Exceeds c (point_in (get_or points j d))) (at_number i (point_in d) (omega arith))
      (subst (λ (c : Corner). Exceeds (get_or (map point_in points) i (point_in d)) c) (at_number j (point_in d) low)
      (rises (IsAttained p cap) (map point_in points) front.frontier i j (point_in d) before within))

  -- of no less number: of no less cost
  cost_rises : (i j : ℕ) → i ≤ j → j < length points → (get_or points i d).cost ≤ (get_or points j d).cost
  cost_rises i j before low = elim (cases_order i j) [
    | inl same ↦ omega (arith, ap (λ (k : ℕ). (get_or points k d).cost) same)
    | inr other ↦ elim other [
      | inl less ↦ let more = (rising i j less low).costs in omega (arith, more)
      | inr more ↦ absurd (omega (arith, more, before))
    ]
  ]

  -- of no more cost: of no more slack
  slack_rises : (i j : ℕ) → i < length points → j < length points → (get_or points i d).cost ≤ (get_or points j d).cost
      → (get_or points i d).slack ≤ℤ (get_or points j d).slack
  slack_rises i j i_low j_low costs = elim (cases_order i j) [
    | inl same ↦ omega (arith, ints, ap (λ (k : ℕ). (get_or points k d).slack) same)
    | inr other ↦ elim other [
      | inl less ↦ let more = (rising i j less j_low).slacks in omega (arith, ints, more)
      | inr more ↦ let dear = (rising j i more i_low).costs in absurd (omega (arith, dear, costs))
    ]
  ]

-- every good placement has a slack, and so a point
pub none_within : (p : Problem) (cap : Option ℕ) (points : List Point) → IsFrontierOf p cap points → points ≡ [] → HasNoneWithin p cap
none_within p cap points front none = λ cells good within.
    let (x, pair, drives) = (root_pairs p cells).pair good in
    let slack = (root_pairs p cells).slack x pair in
    let corner : Corner = record { cost = cost_of p cells; slack = root_value p x } in
    let (other, (k, low, _), _) = front.frontier.covers corner (cells, record { good = good; within = within; costs = refl; slacks = slack }) in
    absurd (omega (arith, low, length-map points point_in, ap length none))

module _ (p : Problem) (cap : Option ℕ) (target : ℤ) (points : List Point) (front : IsFrontierOf p cap points) (point : Point)
    (pick : IsPick target points point) where
  placed : IsPointOf p cap point.placement.cells (point_in point)
  placed = subst (λ (x : Point). IsPointOf p cap x.placement.cells (point_in x)) (pick.is point) (front.placed pick.at point pick.low)

  good : IsGoodWithin p cap point.placement.cells point.slack
  good = record { good = record { good = placed.good; slack = placed.slacks }; within = placed.within }

  cost_at : (get_or points pick.at point).cost ≡ cost_of p point.placement.cells
  cost_at = ap (λ (x : Point). x.cost) (pick.is point) ∙ placed.costs

  slack_at : (get_or points pick.at point).slack ≡ point.slack
  slack_at = ap (λ (x : Point). x.slack) (pick.is point)

  -- what has slack enough costs no less than the first such point
  cheapest : IsEnough target point.slack → IsCheapest p cap target point.placement.cells point.slack
  cheapest enough = record {
    good = good;
    enough = enough;
    least = λ others y other other_enough.
        let (k, is) = covered p cap points front point others y other in
        elim (cases_lt k pick.at) [
          | inl before ↦ absurd (pick.before k point before (omega (arith, ints, other_enough, is.slacks)))
          | inr after ↦ omega (arith, cost_at, is.costs, cost_rises p cap points front point pick.at k after is.low)
        ];
    most = λ others y other same.
        let (k, is) = covered p cap points front point others y other in
        omega (arith, ints, slack_at, is.slacks, slack_rises p cap points front point k pick.at is.low pick.low (omega (arith, is.costs, same, cost_at)));
  }

  module _ (short : IsEnough target point.slack → ⊥) where
    -- the point is the last
    ends : pick.at + 1 ≡ length points
    ends = pick.last short

    most : (others : List (Option ℕ)) (y : ℤ) → IsGoodWithin p cap others y → y ≤ℤ point.slack
    most others y other =
        let (k, is) = covered p cap points front point others y other in
        let costs = cost_rises p cap points front point k pick.at (omega (arith, is.low, ends)) pick.low in
        omega (arith, ints, slack_at, is.slacks, slack_rises p cap points front point k pick.at is.low pick.low costs)

    least : (others : List (Option ℕ)) → IsGoodWithin p cap others point.slack → cost_of p point.placement.cells ≤ cost_of p others
    least others other =
        let (k, is) = covered p cap points front point others point.slack other in
        elim (cases_lt k pick.at) [
          | inl before ↦ let less = (rising p cap points front point k pick.at before pick.low).slacks in absurd (omega (arith, ints, less, slack_at, is.slacks))
          | inr after ↦ omega (arith, cost_at, is.costs, cost_rises p cap points front point pick.at k after is.low)
        ]

    nearest : NoneIsBare p point.slack → IsNearest p cap target point.placement.cells point.slack
    nearest never = record { good = good; short = short; most = most; least = least; bare = λ others bare. absurd (never others bare) }

    nearest_bare : (cells : List (Option ℕ)) → IsBare p point.slack cells → IsNearest p cap target cells point.slack
    nearest_bare cells bare = record {
      good = bare_good p cap cells point.slack bare;
      short = short;
      most = most;
      least = λ others other. bare_least p cells others bare.0;
      bare = λ others other. bare.0;
    }

  -- the point is the repair where the placement without a cell has another slack
  pub point_repairs : NeedsCells p target → NoneIsBare p point.slack → IsRepair p cap target point.placement.cells point.slack
  point_repairs needs never =
      by_lt_z point.slack target
      (λ less. IsRepair.short (nearest (λ enough. omega (arith, ints, less, enough)) never))
      (λ enough. IsRepair.met needs (cheapest enough))

  -- and that placement is where it has the slack of the point
  pub bare_repairs : (cells : List (Option ℕ)) (x : ℤ) → NeedsCells p target → IsBare p x cells → x ≡ point.slack → IsRepair p cap target cells x
  bare_repairs cells x needs bare same =
      let here : IsBare p point.slack cells = subst (λ (y : ℤ). IsBare p y cells) same bare in
      subst (IsRepair p cap target cells) (sym same) (IsRepair.short (nearest_bare (λ enough. needs cells point.slack here enough) cells here))
