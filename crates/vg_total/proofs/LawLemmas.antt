-- The laws of totals.
use Rattle.std.proofs.Common.{◌≡◌, ℕ, ◌<◌, List, [], ◌∷◌, Option, refl, sym, ap, subst, arith, length, map}
use Rattle.std.specs.declared.vec.Vec.{Vec}
use Rattle.std.specs.declared.alloc.Global.{Global}
use Rattle.elmore.specs.Frontier.{IsAttained, IsFrontier}
use Rattle.elmore.proofs.FrontierLemmas.{rises}
use Rattle.vg_front.specs.Points.{point_in}
use Rattle.vg_front.specs.declared.root.Point.{Point as Found}
use Rattle.vg_total.specs.Picks.{front_at, total_point, AreTotals}
use Rattle.vg_total.specs.TotalLaws.{AreFrontiersOf, TotalOfNets, HasNoChoice, EmptyWhereNoChoice, FoundPointsRise}
use Rattle.vg_total.specs.declared.pick.TotalPoint.{TotalPoint}
use Rattle.vg_total.proofs.TotalLemmas.{total_of_all}
use Rattle.vg_total.proofs.PickLemmas.{front_is}

pub total_of_nets : TotalOfNets
total_of_nets problems fronts cap points f t =
    total_of_all (length fronts) problems (front_at fronts) cap (map total_point points) (frontier_at fronts f) t.frontier
  where
    frontier_at : (fronts : List (Vec Found Global)) → AreFrontiersOf problems cap fronts
        → (k : ℕ) → k < length fronts → IsFrontier (IsAttained (problems k) cap) (front_at fronts k)
    frontier_at [] f k k_n = absurd (omega arith)
    frontier_at (front ∷ fronts) f k k_n =
        subst (IsFrontier (IsAttained (problems k) cap)) (sym (front_is (front ∷ fronts) k front k_n)) (f k front k_n).frontier

no_choice : (fronts : List (Vec Found Global)) (cap : Option ℕ) (points : List TotalPoint) → AreTotals fronts cap points
    → points ≡ [] → HasNoChoice fronts cap
no_choice fronts cap points t none x x_in =
    let (other, other_in, outdoes) = t.frontier.covers x x_in in
    let (k, k_n, is) = other_in in
    let empty : length (map total_point points) ≡ 0 = ap (λ (xs : List TotalPoint). length (map total_point xs)) none in
    absurd (omega (arith, k_n, empty))

no_point : (fronts : List (Vec Found Global)) (cap : Option ℕ) (points : List TotalPoint) → AreTotals fronts cap points
    → HasNoChoice fronts cap → points ≡ []
no_point fronts cap [] t none = refl
no_point fronts cap (x ∷ points) t none =
    absurd (none (total_point x) (t.frontier.taken 0 (total_point x) (omega arith)).attained)

pub empty_where_none : EmptyWhereNoChoice
empty_where_none fronts cap points t = (no_choice fronts cap points t, no_point fronts cap points t)

pub found_rise : FoundPointsRise
found_rise p cap found f = rises (IsAttained p cap) (map point_in found) f.frontier
