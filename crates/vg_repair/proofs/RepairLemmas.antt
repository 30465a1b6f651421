-- The placement without a cell, and what repairs have in common.
use Rattle.std.proofs.Common.{◌≡◌, ℕ, suc, ◌≤◌, List, [], ◌∷◌, refl, sym, ap, ◌∙◌, subst, arith, Option, Some, None, ℤ}
use Rattle.std.specs.Prelude.{IfSome}
use Rattle.std.specs.List.{sum_by}
use Rattle.std.proofs.lemmas.Int.{ints}
use Rattle.std.proofs.lemmas.List.{ext_get_or}
use Rattle.std.proofs.lemmas.List.Sums.{sum_by-cons}
use Rattle.elmore.specs.Cells.{rep_of, cell_cost}
use Rattle.elmore.specs.Legal.{IsWithin}
use Rattle.elmore.specs.Placements.{IsSlack, cost_of}
use Rattle.elmore.specs.declared.problem.Problem.{Problem}
use Rattle.elmore.specs.declared.rep.Rep.{Rep}
use Rattle.vg_slack.specs.Bests.{HasNoCell, IsBare}
use Rattle.vg_slack.specs.declared.answer.Best.{Best}
use Rattle.vg_repair.specs.Picks.{IsBareOf}
use Rattle.vg_repair.specs.Repairs.{IsEnough, IsGoodWithin, NeedsCells, IsCheapest, IsNearest, IsRepair}
use Rattle.vg_repair.specs.RepairLaws.{IsOutOfReach, IsCheapestBest}

one_slack : (p : Problem) (cells : List (Option ℕ)) (x y : ℤ) → IsSlack p cells x → IsSlack p cells y → x ≡ y
one_slack p cells x y is_x is_y =
    let (w, sink, here, e) = is_x.met in
    let (u, other, there, d) = is_y.met in
    omega (arith, ints, e, d, is_y.least w sink here, is_x.least u other there)

-- WITHOUT A CELL
none_cost : (reps : List Rep) (cells : List (Option ℕ)) → HasNoCell cells → sum_by (λ cell. cell_cost (rep_of reps cell)) cells ≡ 0
none_cost reps [] bare = refl
none_cost reps (cell ∷ cells) bare =
    let first : cell_cost (rep_of reps cell) ≡ 0 = ap (λ (c : Option ℕ). cell_cost (rep_of reps c)) (bare 0) in
    omega (arith, first, sum_by-cons (λ (c : Option ℕ). cell_cost (rep_of reps c)) cell cells, none_cost reps cells (λ v. bare (suc v)))

bare_cost : (p : Problem) (cells : List (Option ℕ)) → HasNoCell cells → cost_of p cells ≡ 0
unfolding cost_of
bare_cost p cells bare = none_cost p.reps cells bare

none_within : (cap : Option ℕ) (n : ℕ) → n ≡ 0 → IsWithin cap n
none_within None n e = tt
none_within (Some most) n e = omega arith

pub bare_good : (p : Problem) (cap : Option ℕ) (cells : List (Option ℕ)) (x : ℤ) → IsBare p x cells → IsGoodWithin p cap cells x
bare_good p cap cells x bare = record { good = bare.1; within = none_within cap (cost_of p cells) (bare_cost p cells bare.0) }

pub bare_least : (p : Problem) (cells others : List (Option ℕ)) → HasNoCell cells → cost_of p cells ≤ cost_of p others
bare_least p cells others bare = omega (arith, bare_cost p cells bare)

-- there is one such placement, so with one slack
pub bare_slack : (p : Problem) (cells others : List (Option ℕ)) (x y : ℤ) → IsBare p x cells → IsBare p y others → x ≡ y
bare_slack p cells others x y bare other =
    let same : others ≡ cells
    = ext_get_or None others cells (other.1.good.placement.one_each ∙ sym bare.1.good.placement.one_each) (λ i i_n. other.0 i ∙ sym (bare.0 i)) in
    one_slack p cells x y bare.1.slack (subst (λ (at : List (Option ℕ)). IsSlack p at y) same other.1.slack)

pub needs_cells : (p : Problem) (target : ℤ) (bare : Option Best) → IsBareOf p bare
    → IfSome bare (λ (best : Best). IsEnough target best.slack → ⊥) → NeedsCells p target
needs_cells p target None none short = λ cells x bare enough. none x cells bare
needs_cells p target (Some best) is short = λ cells x bare enough.
    short (subst (IsEnough target) (bare_slack p cells best.placement.cells x best.slack bare is) enough)

-- REPAIRS
pub repair_good : (p : Problem) (cap : Option ℕ) (target : ℤ) (cells : List (Option ℕ)) (x : ℤ) → IsRepair p cap target cells x
    → IsGoodWithin p cap cells x
repair_good p cap target cells x (IsRepair.kept bare enough) = bare_good p cap cells x bare
repair_good p cap target cells x (IsRepair.met needs is) = is.good
repair_good p cap target cells x (IsRepair.short is) = is.good

-- one that is near to a target is not near enough where another one is
not_near : (p : Problem) (cap : Option ℕ) (target : ℤ) (cells others : List (Option ℕ)) (x y : ℤ) → IsNearest p cap target cells x
    → IsGoodWithin p cap others y → IsEnough target y → ⊥
not_near p cap target cells others x y is good enough = is.short (omega (arith, ints, enough, is.most others y good))

module _ (p : Problem) (cap : Option ℕ) (target : ℤ) (cells others : List (Option ℕ)) (x y : ℤ) where
  abbrev AreAlike : Type 0
  AreAlike = (cost_of p cells ≡ cost_of p others) × (x ≡ y)

  both_bare : IsBare p x cells → IsBare p y others → AreAlike
  both_bare bare other = (omega (arith, bare_cost p cells bare.0, bare_cost p others other.0), bare_slack p cells others x y bare other)

  both_cheapest : IsCheapest p cap target cells x → IsCheapest p cap target others y → AreAlike
  both_cheapest is other =
      let less = is.least others y other.good other.enough in
      let more = other.least cells x is.good is.enough in
      let same : cost_of p cells ≡ cost_of p others = omega (arith, less, more) in
      (same, omega (arith, ints, is.most others y other.good (sym same), other.most cells x is.good same))

  both_nearest : IsNearest p cap target cells x → IsNearest p cap target others y → AreAlike
  both_nearest is other =
      let same : x ≡ y = omega (arith, ints, is.most others y other.good, other.most cells x is.good) in
      let less = is.least others (subst (IsGoodWithin p cap others) (sym same) other.good) in
      let more = other.least cells (subst (IsGoodWithin p cap cells) same is.good) in
      (omega (arith, less, more), same)

  pub one_repair : IsRepair p cap target cells x → IsRepair p cap target others y → AreAlike
  one_repair (IsRepair.kept bare enough) (IsRepair.kept other other_enough) = both_bare bare other
  one_repair (IsRepair.kept bare enough) (IsRepair.met needs is) = absurd (needs cells x bare enough)
  one_repair (IsRepair.kept bare enough) (IsRepair.short is) =
      absurd (not_near p cap target others cells y x is (bare_good p cap cells x bare) enough)
  one_repair (IsRepair.met needs is) (IsRepair.kept other enough) = absurd (needs others y other enough)
  one_repair (IsRepair.met needs is) (IsRepair.met other_needs other) = both_cheapest is other
  one_repair (IsRepair.met needs is) (IsRepair.short other) = absurd (not_near p cap target others cells y x other is.good is.enough)
  one_repair (IsRepair.short is) (IsRepair.kept other enough) =
      absurd (not_near p cap target cells others x y is (bare_good p cap others y other) enough)
  one_repair (IsRepair.short is) (IsRepair.met needs other) = absurd (not_near p cap target cells others x y is other.good other.enough)
  one_repair (IsRepair.short is) (IsRepair.short other) = both_nearest is other

nearest_best : (p : Problem) (target : ℤ) (cells : List (Option ℕ)) (x : ℤ) → IsNearest p None target cells x → IsCheapestBest p cells x
nearest_best p target cells x is = record {
  best = record {
    good = is.good.good.good;
    slack = is.good.good.slack;
    most = λ others y good slack. is.most others y (record { good = record { good = good; slack = slack }; within = tt });
  };
  least = λ others y best.
      let same : x ≡ y =
      omega (
        arith,
        ints,
        best.most cells x is.good.good.good is.good.good.slack,
        is.most others y (record { good = record { good = best.good; slack = best.slack }; within = tt }),
      ) in
      is.least others (record { good = record { good = best.good; slack = subst (IsSlack p others) (sym same) best.slack }; within = tt });
}

pub far_best : (p : Problem) (target : ℤ) (cells : List (Option ℕ)) (x : ℤ) → IsOutOfReach p target → IsRepair p None target cells x
    → IsCheapestBest p cells x
far_best p target cells x far (IsRepair.kept bare enough) = absurd (far cells x bare.1 enough)
far_best p target cells x far (IsRepair.met needs is) = absurd (far cells x is.good.good is.enough)
far_best p target cells x far (IsRepair.short is) = nearest_best p target cells x is
