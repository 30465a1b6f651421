-- What the functions between are told of a net with cells and widths.
use Rattle.std.specs.Prelude.{ℕ, ℤ, ◌+ℤ◌, ◌-ℤ◌, pos, List, Option, slice_index_or}
use Rattle.elmore.specs.Legal.{IsPlaced}
use Rattle.elmore.specs.Placements.{IsPlacement}
use Rattle.elmore.specs.declared.problem.Problem.{Problem}
use Rattle.elmore.specs.declared.parts.Sink.{Sink}
use Rattle.wire_widths.specs.Fits.{Fits}
use Rattle.wire_widths.specs.Widths.{AreWidths, IsLawful}
use Rattle.wire_widths.specs.declared.width.Width.{Width}

-- cells at places and a lawful choice of widths, with which no load and no delay is too large to be computed
pub record IsWideNet (p : Problem) (widths : List Width) (cells : List (Option ℕ)) (chosen : List ℕ) : Type 0 where
  pub are : AreWidths widths
  pub fits : Fits p widths
  pub placement : IsPlacement p cells
  pub placed : IsPlaced p cells
  pub lawful : IsLawful p widths chosen

-- what is left of the required time of a sink at v, where the signal leaves the driver at this time and takes so long
-- to each node
abbrev pub left_after : ℤ → List ℕ → ℕ → Sink → ℤ
left_after start delays v sink = sink.required -ℤ (start +ℤ pos (slice_index_or delays v 0))
