-- The net of a stage is a piece of the net that is split.
use Rattle.std.specs.Prelude.{◌≡◌, ℕ, ◌<◌, ◌==◌, ◌&&◌, not, true, false, List, length, slice_index, Some, if◌then◌else◌}
use Rattle.std.specs.List.{list_any}
use Rattle.elmore.specs.Legal.{IsPlaced}
use Rattle.elmore.specs.declared.tree.Node.{Node}
use Rattle.spef_net.specs.declared.net.ParNet.{ParNet}
use Rattle.cut_laws.specs.PieceNets.{IsPieceNet, NumberedNet}
use Rattle.vg_design.specs.Designs.{Design, Joined}
use Rattle.vg_design.specs.Parts.{IsProblemOf, load_at}
use Rattle.vg_scan.specs.declared.chars.Chars.{Chars}
use Rattle.vg_split.specs.Conditions.{IsSplit}
use Rattle.vg_split.specs.Splits.{IsStageNet, Split, forest, head, is_celled, nodes_in, repeater_at}
use Rattle.vg_split.specs.Stages.{heads}
use Rattle.spef_wire.specs.Refusals.{IsNetTree, goes_both_ways}

-- A net of a design, of which no connection goes both ways, is split by a placement of its problem, into cells of the
-- design's library.
pub record IsSplitOf (d : Design) (n : Joined) (x : Split) : Type 0 where
  pub split : IsSplit x
  pub par : x.par ≡ n.par
  pub tree : List Node
  pub a_tree : IsNetTree n.par tree x.order
  pub problem : IsProblemOf d n tree x.order x.problem
  pub placed : IsPlaced x.problem x.cells
  pub repeaters : x.repeaters ≡ d.library.repeaters
  pub one_way : list_any goes_both_ways n.par.conns ≡ false

-- so the cell at a node is the repeater there
abbrev pub CellsAreRepeaters : Type 0
CellsAreRepeaters =
    (d : Design) (n : Joined) (x : Split) → IsSplitOf d n x → (w : ℕ) → is_celled x w ≡ true
    → (forest x).cell w ≡ Some (repeater_at x w).rep

-- a net by its numbers, from a root
abbrev pub by_numbers : ParNet → ℕ → NumberedNet
by_numbers net root = record { nodes = length net.nodes; root = root; caps = net.caps; edges = net.ress }

-- what a stage's node has besides capacitors: the input of a cell that ends the stage, or the load of a sink
abbrev pub load_in : Design → Joined → Split → ℕ → ℕ → ℕ
load_in d n x k w =
    if is_celled x w && not (w == head x k) then (repeater_at x w).rep.cin else load_at d n (slice_index x.order w)

-- this is the net of the stage of a number
pub record IsNetOfStage (d : Design) (n : Joined) (x : Split) (k : ℕ) (net : ParNet) : Type 0 where
  pub split : IsSplitOf d n x
  pub number : k < length (heads (forest x))
  pub chars : Chars
  pub of_stage : IsStageNet chars x k net

-- so it is the piece of the node where the stage begins, whose number is 0
abbrev pub StageNetsArePieces : Type 0
StageNetsArePieces = (d : Design) (n : Joined) (x : Split) (k : ℕ) (net : ParNet) → IsNetOfStage d n x k net
    → IsPieceNet (forest x) (head x k) (by_numbers net 0) (λ i. load_in d n x k (slice_index (nodes_in x k) i))
    (slice_index (nodes_in x k))
