-- As much of a frontier as a target needs.
use Rattle.std.proofs.Common.{◌≡◌, ℕ, ◌≤◌, List, [], map, length, get_or, sym, ap, ◌∙◌, subst, arith, inl, inr, Option, None, Some, Result, Ok, Err, ℤ}
use Rattle.std.specs.Prelude.{IfOk}
use Rattle.std.specs.List.{Contains}
use Rattle.std.proofs.lemmas.Bool.{cases_lt}
use Rattle.std.proofs.lemmas.Int.{ints, by_lt_z}
use Rattle.elmore.specs.Best.{IsBest}
use Rattle.elmore.specs.Frontier.{Point as Corner, IsAttained, IsPointOf, IsOnFrontier, Outdoes}
use Rattle.elmore.specs.Legal.{IsWithin}
use Rattle.elmore.specs.Placements.{cost_of}
use Rattle.elmore.specs.declared.problem.Problem.{Problem}
use Rattle.vg_front.specs.Points.{IsFrontierOf, point_in}
use Rattle.vg_front.specs.declared.root.Point.{Point}
use Rattle.vg_slack.specs.Bests.{IsBare, NoneIsBare}
use Rattle.vg_repair.specs.Picks.{IsPick, HasEnough, IsLastCap, IsSearched}
use Rattle.vg_repair.specs.Repairs.{IsEnough, IsGoodWithin, NeedsCells, IsCheapest, IsRepair, HasNoneWithin}
use Rattle.vg_repair.proofs.PickLemmas.{none_within, point_repairs, bare_repairs}

within : (cap : Option ℕ) (few n : ℕ) → IsWithin cap few → n ≤ few → IsWithin cap n
within None few n low less = tt
within (Some most) few n low less = omega (arith, low, less)

-- THE FRONTIER WITHIN WHAT A BEST PLACEMENT COSTS IS THAT WITHIN THE CAP
module _ (p : Problem) (cap : Option ℕ) (few : ℕ) (low : IsWithin cap few) (points : List Point) (front : IsFrontierOf p (Some few) points) where
  point_widens : (cells : List (Option ℕ)) (point : Corner) → IsPointOf p (Some few) cells point → IsPointOf p cap cells point
  point_widens cells point is = record { good = is.good; within = within cap few (cost_of p cells) low is.within; costs = is.costs; slacks = is.slacks }

  alone_widens : (point : Corner) → IsOnFrontier (IsAttained p (Some few)) point → IsOnFrontier (IsAttained p cap) point
  alone_widens point is =
      let (cells, here) = is.attained in
      record {
        attained = (cells, point_widens cells point here);
        alone = λ other at over.
            let (others, there) = at in
            is.alone other (
              others,
              record {
                good = there.good;
                within = omega (arith, there.costs, over.costs, here.costs, here.within);
                costs = there.costs;
                slacks = there.slacks;
              },
            )
            over;
      }

  module _ (cells : List (Option ℕ)) (x : ℤ) (best : IsBest p cells x) (costs : cost_of p cells ≡ few) where
    covers_widens : (point : Corner) → IsAttained p cap point → (other : Corner) × Contains (map point_in points) other × Outdoes other point
    covers_widens point (others, there) = elim (cases_lt few (cost_of p others)) [
      | inl more ↦
          let top : Corner = record { cost = few; slack = x } in
          let (other, has, over) =
          front.frontier.covers top (cells, record { good = best.good; within = omega (arith, costs); costs = sym costs; slacks = best.slack }) in (
            other,
            has,
            record {
              costs = omega (arith, over.costs, more, there.costs);
              slacks = omega (arith, ints, over.slacks, best.most others point.slack there.good there.slacks);
            },
          )
      | inr less ↦ front.frontier.covers point (others, record { good = there.good; within = less; costs = there.costs; slacks = there.slacks })
    ]

    front_widens : IsFrontierOf p cap points
    front_widens = record {
      frontier = record {
        rising = front.frontier.rising;
        taken = λ i d i_n. alone_widens (get_or (map point_in points) i d) (front.frontier.taken i d i_n);
        covers = covers_widens;
      };
      placed = λ i d i_n. point_widens (get_or points i d).placement.cells (point_in (get_or points i d)) (front.placed i d i_n);
    }

pub searched_widens : (p : Problem) (cap : Option ℕ) (target : ℤ) (cells : List (Option ℕ)) (x : ℤ) (last : ℕ) (points : List Point) → IsBest p cells x
    → IsLastCap cap (cost_of p cells) last → IsSearched p (Some last) target points → IsSearched p cap target points
searched_widens p cap target cells x last points best (IsLastCap.own low same) (IsSearched.whole front) =
    IsSearched.whole (front_widens p cap last (subst (IsWithin cap) (sym same) low) points front cells x best (sym same))
searched_widens p cap target cells x last points best (IsLastCap.own low same) (IsSearched.first few less front enough) =
    IsSearched.first few (within cap (cost_of p cells) few low (omega (arith, less, same))) front enough
searched_widens p cap target cells x last points best (IsLastCap.given same less) searched =
    subst (λ (most : Option ℕ). IsSearched p most target points) (sym same) searched

pub if_searched : {A E : Type 0} (P Q : A → Type 0) (result : Result A E) → ((x : A) → P x → Q x) → IfOk result P → IfOk result Q
if_searched P Q (Ok x) widens is = widens x is
if_searched P Q (Err error) widens is = tt

-- A POINT WITH SLACK ENOUGH WITHIN A SMALLER CAP
module _ (p : Problem) (cap : Option ℕ) (few : ℕ) (low : IsWithin cap few) (target : ℤ) where
  good_widens : (cells : List (Option ℕ)) (x : ℤ) → IsGoodWithin p (Some few) cells x → IsGoodWithin p cap cells x
  good_widens cells x is = record { good = is.good; within = within cap few (cost_of p cells) low is.within }

  cheapest_widens : (cells : List (Option ℕ)) (x : ℤ) → IsCheapest p (Some few) target cells x → IsCheapest p cap target cells x
  cheapest_widens cells x is =
      let costs : cost_of p cells ≤ few = is.good.within in
      record {
        good = good_widens cells x is.good;
        enough = is.enough;
        least = λ others y other enough. elim (cases_lt few (cost_of p others)) [
          | inl more ↦ omega (arith, costs, more)
          | inr less ↦ is.least others y (record { good = other.good; within = less }) enough
        ];
        most = λ others y other same. is.most others y (record { good = other.good; within = omega (arith, same, costs) }) same;
      }

  repair_widens : (cells : List (Option ℕ)) (x : ℤ) → IsRepair p (Some few) target cells x → IsEnough target x → IsRepair p cap target cells x
  repair_widens cells x (IsRepair.kept bare enough) _ = IsRepair.kept bare enough
  repair_widens cells x (IsRepair.met needs is) _ = IsRepair.met needs (cheapest_widens cells x is)
  repair_widens cells x (IsRepair.short is) enough = absurd (is.short enough)

-- WHAT THE POINTS COME TO
pub searched_none : (p : Problem) (cap : Option ℕ) (target : ℤ) (points : List Point) → IsSearched p cap target points → points ≡ []
    → HasNoneWithin p cap
searched_none p cap target points (IsSearched.whole front) none = none_within p cap points front none
searched_none p cap target points (IsSearched.first few low front enough) none = absurd (omega (arith, enough.low, ap length none))

module _ (p : Problem) (cap : Option ℕ) (target : ℤ) (points : List Point) (point : Point) (pick : IsPick target points point)
    (needs : NeedsCells p target) where
  -- where some point has slack enough, the one to take has
  pick_enough : HasEnough target points → IsEnough target point.slack
  pick_enough some =
      by_lt_z point.slack target
      (λ less.
      let short : IsEnough target point.slack → ⊥ = λ enough. omega (arith, ints, less, enough) in
      elim (cases_lt some.at pick.at) [
        | inl before ↦ absurd (pick.before some.at point before (some.enough point))
        | inr after ↦
            let same : some.at ≡ pick.at = omega (arith, after, some.low, pick.last short) in
            let slack : (get_or points some.at point).slack ≡ point.slack
            = ap (λ (k : ℕ). (get_or points k point).slack) same ∙ ap (λ (x : Point). x.slack) (pick.is point) in
            absurd (short (subst (IsEnough target) slack (some.enough point)))
      ])
      (λ enough. enough)

  pub searched_point : IsSearched p cap target points → NoneIsBare p point.slack → IsRepair p cap target point.placement.cells point.slack
  searched_point (IsSearched.whole front) never = point_repairs p cap target points front point pick needs never
  searched_point (IsSearched.first few low front some) never =
      repair_widens p cap few low target point.placement.cells point.slack (point_repairs p (Some few) target points front point pick needs never)
      (pick_enough some)

  pub searched_bare : IsSearched p cap target points → (cells : List (Option ℕ)) (x : ℤ) → IsBare p x cells → x ≡ point.slack → IsRepair p cap target cells x
  searched_bare (IsSearched.whole front) cells x bare same = bare_repairs p cap target points front point pick cells x needs bare same
  searched_bare (IsSearched.first few low front some) cells x bare same =
      absurd (needs cells x bare (subst (IsEnough target) (sym same) (pick_enough some)))
