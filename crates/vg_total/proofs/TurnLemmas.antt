-- The turns of a sweep over the nets' frontiers.
use Rattle.std.proofs.Common.{◌≡◌, ℕ, ℤ, ◌<◌, List, [], ◌∷◌, ◌++◌, Option, Some, None, sym, ap, ◌∙◌, subst, arith, inl, inr, length, map, replicate}
use Rattle.std.proofs.lemmas.Bool.{cases_lt}
use Rattle.std.proofs.lemmas.List.{map-append, get_or-replicate, get_or_past, length-replicate}
use Rattle.std.proofs.lemmas.List.Elements.{All-push}
use Rattle.std.specs.List.{sum_by}
use Rattle.std.specs.declared.vec.Vec.{Vec}
use Rattle.std.specs.declared.alloc.Global.{Global}
use Rattle.elmore.specs.Legal.{IsWithin}
use Rattle.elmore.specs.Path.{nodes as numbers}
use Rattle.elmore.specs.Frontier.{IsFrontier}
use Rattle.vg_front.specs.declared.root.Point.{Point as Found}
use Rattle.vg_total.specs.Totals.{IsTotalOf, IsLeastOf}
use Rattle.vg_total.specs.Sweeps.{IsSwept, IsAtEnd}
use Rattle.vg_total.specs.Picks.{front_at, AreFronts, IsTotalIn, total_point, at_of, picked_by, IsPicked, AreTotals}
use Rattle.vg_total.specs.Turns.{IsSweep, IsSweepTo, left_in, AreMovedPicks, IsMove, HasEmpty, NoneEmpty}
use Rattle.vg_total.specs.declared.pick.TotalPoint.{TotalPoint}
use Rattle.vg_total.proofs.TotalLemmas.{some_total}
use Rattle.vg_total.proofs.SweepLemmas.{sweep_start, sweep_none, sweep_more, sweep_full, sweep_over}
use Rattle.vg_total.proofs.PickLemmas.{front_length, are_rising, left_less}

-- one turn, and there is more to come
turn_more : (fronts : List (Vec Found Global)) (cap : Option ℕ) (after : List ℕ) (points : List TotalPoint) (x : TotalPoint) → AreFronts fronts
    → IsSweep fronts cap x.picks.items points → IsTotalOf (length fronts) (picked_by fronts x.picks.items) (total_point x) → IsWithin cap x.cost
    → AreMovedPicks fronts x.slack x.picks.items after → IsSweep fronts cap after (points ++ x ∷ [])
turn_more fronts cap after points x f s of_x within m = record {
  inside = m.inside;
  swept =
      subst (IsSwept (length fronts) (front_at fronts) cap (at_of after)) (sym (map-append total_point points (x ∷ [])))
      (sweep_more (length fronts) (front_at fronts) cap (at_of x.picks.items) (at_of after) (map total_point points) (total_point x) (are_rising fronts f) s.swept of_x within m.moved);
  picked = All-push (IsPicked fronts) points x s.picked (record { picks = s.inside; total = of_x });
}

-- the last turn
turn_end : (fronts : List (Vec Found Global)) (cap : Option ℕ) (points : List TotalPoint) (x : TotalPoint) → AreFronts fronts
    → IsSweep fronts cap x.picks.items points → IsTotalOf (length fronts) (picked_by fronts x.picks.items) (total_point x) → IsWithin cap x.cost
    → IsAtEnd (length fronts) (front_at fronts) x.slack (at_of x.picks.items) → AreTotals fronts cap (points ++ x ∷ [])
turn_end fronts cap points x f s of_x within at_end = record {
  frontier =
      subst (IsFrontier (IsTotalIn fronts cap)) (sym (map-append total_point points (x ∷ [])))
      (sweep_full (length fronts) (front_at fronts) cap (at_of x.picks.items) (map total_point points) (total_point x) (are_rising fronts f) s.swept of_x within at_end);
  picked = All-push (IsPicked fronts) points x s.picked (record { picks = s.inside; total = of_x });
}

-- the picks cost more than the cap
pub turn_over : (fronts : List (Vec Found Global)) (cap : Option ℕ) (picks : List ℕ) (points : List TotalPoint) (cost : ℕ) → AreFronts fronts
    → IsSweep fronts cap picks points → cost ≡ sum_by (λ k. (picked_by fronts picks k).cost) (numbers (length fronts)) → (IsWithin cap cost → ⊥)
    → AreTotals fronts cap points
turn_over fronts None picks points cost f s is over = absurd (over tt)
turn_over fronts (Some most) picks points cost f s is over =
    let (x, of_x) = some_total (length fronts) f.some (picked_by fronts picks) in
    record {
      frontier =
          sweep_over (length fronts) (front_at fronts) most (at_of picks) (map total_point points) x s.swept of_x
          (elim (cases_lt most cost) [
            | inl low ↦ omega (arith, low, is, of_x.cost)
            | inr high ↦ absurd (over high)
          ]);
      picked = s.picked;
    }

-- the picks are within the cap
pub turned : (fronts : List (Vec Found Global)) (cap : Option ℕ) (points : List TotalPoint) (x : TotalPoint) (next : Option (Vec ℕ Global)) → AreFronts fronts
    → IsSweep fronts cap x.picks.items points → IsTotalOf (length fronts) (picked_by fronts x.picks.items) (total_point x) → IsWithin cap x.cost
    → IsMove fronts x.slack x.picks.items next → IsSweepTo fronts cap next (points ++ x ∷ [])
turned fronts cap points x None f s of_x within at_end = turn_end fronts cap points x f s of_x within at_end
turned fronts cap points x (Some after) f s of_x within m = turn_more fronts cap after.items points x f s of_x within m

pub nearer : (fronts : List (Vec Found Global)) (cap : Option ℕ) (points : List TotalPoint) (picks : Vec ℕ Global) (slack : ℤ) (next : Option (Vec ℕ Global))
    → IsSweep fronts cap picks.items points → IsLeastOf (length fronts) (picked_by fronts picks.items) slack
    → IsMove fronts slack picks.items next → left_in fronts next < left_in fronts (Some picks)
nearer fronts cap points picks slack None s least m = omega arith
nearer fronts cap points picks slack (Some after) s least m = omega (arith, left_less fronts picks.items after.items slack s.inside least m)

-- as many picks of first points
zeros : (n k : ℕ) → at_of (replicate n 0) k ≡ 0
zeros n k =
    elim (cases_lt k n) [
      | inl low ↦ get_or-replicate n k 0 0 low
      | inr past ↦ get_or_past (replicate n 0) k 0 (omega (arith, length-replicate {A = ℕ} n 0))
    ]

-- the start
pub start : (fronts : List (Vec Found Global)) (cap : Option ℕ) (picks : List ℕ) → AreFronts fronts → NoneEmpty fronts
    → picks ≡ replicate (length fronts) 0 → IsSweep fronts cap picks []
start fronts cap picks f some is = record {
  inside = record {
    one_each = ap (λ (ps : List ℕ). length ps) is ∙ length-replicate {A = ℕ} (length fronts) 0;
    inside = λ k k_n. omega (arith, none k, some_at fronts some k k_n);
  };
  swept =
      subst (λ (at : ℕ → ℕ). IsSwept (length fronts) (front_at fronts) cap at []) (λ i k. sym (none k) i)
      (sweep_start (length fronts) (front_at fronts) cap (are_rising fronts f) (some_at fronts some));
  picked = λ k d k_n. absurd (omega arith);
}
  where
    none : (k : ℕ) → at_of picks k ≡ 0
    none k = ap (λ (ps : List ℕ). at_of ps k) is ∙ zeros (length fronts) k

    some_at : (fronts : List (Vec Found Global)) → NoneEmpty fronts → (k : ℕ) → k < length fronts → 0 < length (front_at fronts k)
    some_at [] some k k_n = absurd (omega arith)
    some_at (front ∷ fronts) some k k_n = omega (arith, some k front k_n, front_length (front ∷ fronts) k front k_n)

-- a list is empty
pub none_chosen : (fronts : List (Vec Found Global)) (cap : Option ℕ) → HasEmpty fronts → AreTotals fronts cap []
none_chosen fronts cap e = record {
  frontier = sweep_none (length fronts) (front_at fronts) cap e.at e.low (empty_at fronts e);
  picked = λ k d k_n. absurd (omega arith);
}
  where
    empty_at : (fronts : List (Vec Found Global)) (e : HasEmpty fronts) → length (front_at fronts e.at) ≡ 0
    empty_at [] e = absurd (omega (arith, e.low))
    empty_at (front ∷ fronts) e = front_length (front ∷ fronts) e.at front e.low ∙ e.empty front
