-- Why the net of a stage may be too large: by its capacitances alone.
use Rattle.std.specs.Prelude.{◌≡◌, ℕ, ◌^◌, ◌<◌, ◌≤◌, List, length, ℤ, Some}
use Rattle.elmore.specs.Problems.{IsSmall, greatest_load}
use Rattle.elmore.specs.declared.tree.Node.{Node}
use Rattle.spef_wire.specs.Refusals.{IsNetTree}
use Rattle.vg_cons.specs.Rows.{Rows, arrival_of, required_of}
use Rattle.vg_design.specs.Designs.{Design, Joined}
use Rattle.vg_design.specs.Parts.{IsWithinLimits, loaded_tree, places_in, reps_of}
use Rattle.vg_scan.specs.declared.name.NodeName.{NodeName}
use Rattle.vg_split.specs.Splits.{Split, forest}
use Rattle.vg_split.specs.Stages.{heads}
use Rattle.retime_laws.specs.NewStages.{HasStages, IsPut, stage_net}

-- the times that constraints give are at most 10^23 zeptoseconds in size, as they are where they are read
pub record AreTimesSmall (rows : Rows) : Type 0 where
  pub arrivals : (at : NodeName) → IsSmall (arrival_of rows at)
  pub required : (at : NodeName) (time : ℤ) → required_of rows at ≡ Some time → IsSmall time

-- the sum of capacitances that is limited: all of the net with the loads of its sinks, and the greatest input
-- capacitance of the repeaters at each of its places (aF)
abbrev pub counted_sum : Design → Joined → List Node → List ℕ → ℕ
counted_sum d n tree order =
    greatest_load (loaded_tree d n tree order) (places_in d n tree order) (reps_of d.library.repeaters)

-- The net of a stage passes no limit but perhaps that of this sum, which may be greater than it was: a blocked node is
-- not blocked under its new name.
abbrev pub StagesAreLargeByLoads : Type 0
StagesAreLargeByLoads = (d : Design) (n : Joined) (x : Split) (new : Design) → IsPut d n x
    → (has : HasStages d n x new) → AreTimesSmall d.rows
    → (k : ℕ) (low : k < length (heads (forest x))) (tree : List Node) (order : List ℕ)
    → IsNetTree (stage_net has k low).par tree order
    → counted_sum new (stage_net has k low) tree order ≤ 10 ^ 11 → IsWithinLimits new (stage_net has k low) tree order
