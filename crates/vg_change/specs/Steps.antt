-- What the steps of a change answer: for the functions between.
use Rattle.std.specs.Prelude.{◌≡◌, ℕ, List, Option}
use Rattle.spef_file.specs.declared.header.Header.{Header}
use Rattle.spef_net.specs.declared.net.ParNet.{ParNet}
use Rattle.vg_design.specs.Designs.{Joined}
use Rattle.vg_design.specs.declared.net_problem.PosedNet.{PosedNet}
use Rattle.vg_split.specs.Splits.{Split}
use Rattle.spef_patch_laws.specs.Sections.{sections_text}
use Rattle.vg_change.specs.Changes.{AreStageNets, Changes, split_behind}
use Rattle.vg_change.specs.Placed.{PlacedNet}

-- a text says the nets of the first n stages
pub record SaysStages (header : Header) (x : Split) (n : ℕ) (text : List ℕ) : Type 0 where
  pub nets : List ParNet
  pub stages : AreStageNets header.chars x n nets
  pub is : text ≡ sections_text header nets

-- a posed net with these cells
abbrev pub placed_net : PosedNet → List (Option ℕ) → PlacedNet
placed_net posed cells =
    record { net = posed.ready.pinned.net; order = posed.ready.order; problem = posed.problem; cells = cells }

-- a net as it is split
abbrev pub placed_by : Joined → Split → PlacedNet
placed_by n x = record { net = n; order = x.order; problem = x.problem; cells = x.cells }

-- this is how the net is split, behind what changed before
pub record IsSplitOf (c : Changes) (n : Joined) (x : Split) : Type 0 where
  pub par : x.par ≡ n.par
  pub is : x ≡ split_behind c (placed_by n x)
