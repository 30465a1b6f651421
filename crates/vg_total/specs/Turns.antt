-- The sweep over the nets' frontiers, with its picks as numbers.
use Rattle.std.specs.Prelude.{◌≡◌, ℕ, ◌+◌, ◌-◌, ◌<◌, List, length, map, slice_index_or, ℤ}
use Rattle.std.specs.Prelude.{Option, MatchOption, option_map, unwrap_or}
use Rattle.std.specs.List.{All, sum_by}
use Rattle.std.specs.declared.vec.Vec.{Vec}
use Rattle.std.specs.declared.alloc.Global.{Global}
use Rattle.elmore.specs.Path.{nodes as numbers}
use Rattle.vg_front.specs.declared.root.Point.{Point as Found}
use Rattle.vg_total.specs.Sweeps.{IsSwept, AreMoved, IsAtEnd}
use Rattle.vg_total.specs.Picks.{front_at, total_point, at_of, ArePicks, IsPicked, AreTotals}
use Rattle.vg_total.specs.declared.pick.TotalPoint.{TotalPoint}

-- what holds when the picks stand here and these points are found
pub record IsSweep (fronts : List (Vec Found Global)) (cap : Option ℕ) (picks : List ℕ) (points : List TotalPoint)
    : Type 0 where
  pub inside : ArePicks fronts picks
  pub swept : IsSwept (length fronts) (front_at fronts) cap (at_of picks) (map total_point points)
  pub picked : All (IsPicked fronts) points

-- the same, where the picks may have come to their end
abbrev pub IsSweepTo : List (Vec Found Global) → Option ℕ → Option (Vec ℕ Global) → List TotalPoint → Type 0
IsSweepTo fronts cap next points =
    MatchOption next (AreTotals fronts cap points) (λ picks. IsSweep fronts cap picks.items points)

-- how far the picks are from the ends of their lists
abbrev pub left_of : List (Vec Found Global) → List ℕ → ℕ
left_of fronts picks = sum_by (λ k. length (front_at fronts k) - at_of picks k) (numbers (length fronts))

-- one more than that, or nothing at the end
abbrev pub left_in : List (Vec Found Global) → Option (Vec ℕ Global) → ℕ
left_in fronts next = unwrap_or (option_map (λ (picks : Vec ℕ Global). left_of fronts picks.items + 1) next) 0

-- the picks after the move of those of at most this slack
pub record AreMovedPicks (fronts : List (Vec Found Global)) (x : ℤ) (picks after : List ℕ) : Type 0 where
  pub inside : ArePicks fronts after
  pub moved : AreMoved (length fronts) (front_at fronts) x (at_of picks) (at_of after)

-- the picks after a move, or one of them was the last of its list
abbrev pub IsMove : List (Vec Found Global) → ℤ → List ℕ → Option (Vec ℕ Global) → Type 0
IsMove fronts x picks next =
    MatchOption next (IsAtEnd (length fronts) (front_at fronts) x (at_of picks))
    (λ after. AreMovedPicks fronts x picks after.items)

-- a list is empty
pub record HasEmpty (fronts : List (Vec Found Global)) : Type 0 where
  pub at : ℕ
  pub low : at < length fronts
  pub empty : (d : Vec Found Global) → length (slice_index_or fronts at d).items ≡ 0

-- none is
abbrev pub NoneEmpty : List (Vec Found Global) → Type 0
NoneEmpty fronts = All (λ (front : Vec Found Global). 0 < length front.items) fronts
