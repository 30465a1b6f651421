-- The choices that a search over the frontiers of nets finds.
use Rattle.std.specs.Prelude.{◌<◌, ℕ, List, [], length, map, pos, slice_index_or, zip, Option}
use Rattle.std.specs.List.{AllZip}
use Rattle.std.specs.declared.alloc.Global.{Global}
use Rattle.std.specs.declared.vec.Vec.{Vec}
use Rattle.vg_front.specs.Points.{IsFrontierOf}
use Rattle.vg_front.specs.declared.root.Point.{Point as Pick}
use Rattle.vg_total.specs.declared.pick.TotalPoint.{TotalPoint}
use Rattle.mode_total.specs.Choices.{Accepted, Choice}

-- past the last point of a frontier there is none
abbrev pub NO_PICK : Pick
NO_PICK = record { cost = 0; slack = pos 0; placement = record { cells = [] } }

-- of each frontier the point that is picked
abbrev pub picked_in : Vec Pick Global × ℕ → Pick
picked_in (front, at) = slice_index_or front.items at NO_PICK

abbrev pub picks_in : List (Vec Pick Global) → List ℕ → List Pick
picks_in fronts picks = map picked_in (zip fronts picks)

-- each pick stands inside its frontier
abbrev pub AreInside : List (Vec Pick Global) → List ℕ → Type 0
AreInside fronts picks = AllZip (λ (front : Vec Pick Global) (at : ℕ). at < length front.items) fronts picks

-- a point of the frontier of all nets, with the points that are picked of theirs
abbrev pub choice_in : List (Vec Pick Global) → TotalPoint → Choice
choice_in fronts x = record { cost = x.cost; slack = x.slack; picks = picks_in fronts x.picks.items }

-- the frontiers of these nets
abbrev pub IsFrontFor : Option ℕ → Accepted → Vec Pick Global → Type 0
IsFrontFor cap own front = IsFrontierOf own.net.problem cap front.items

abbrev pub AreFrontsFor : Option ℕ → List Accepted → List (Vec Pick Global) → Type 0
AreFrontsFor cap nets fronts = AllZip (IsFrontFor cap) nets fronts
