-- A design whose wires are cut into parts: the problems of its nets.
use Rattle.std.specs.Prelude.{◌≡◌, ◌↔◌, ◌<◌, ℕ, ℤ, ◌≤ℤ◌, List, length, slice_index_or, Option, Some, None}
use Rattle.elmore.specs.Best.{IsGood, IsBest}
use Rattle.elmore.specs.Placements.{IsSlack}
use Rattle.design_read.specs.Designs.{IsDesign, texts_of}
use Rattle.vg_design.specs.Designs.{Design}
use Rattle.vg_design.specs.Nets.{IsBare, IsNetProblem, name_at}
use Rattle.vg_design.specs.declared.net_problem.NetProblem.{NetProblem}
use Rattle.vg_scan.specs.declared.name.NodeName.{NodeName}
use Rattle.segment_laws.specs.SegmentedTexts.{IsCutIn}

-- the node of this name has this cell
pub record HasCell (p : NetProblem) (cells : List (Option ℕ)) (at : NodeName) (cell : ℕ) : Type 0 where
  pub node : ℕ
  pub within : node < length p.problem.tree.nodes
  pub named : name_at p.names node ≡ at
  pub has : slice_index_or cells node None ≡ Some cell

-- two placements have the same cells, by the names of the nodes
abbrev pub HaveSameCells : NetProblem → List (Option ℕ) → NetProblem → List (Option ℕ) → Type 0
HaveSameCells p cells q more = (at : NodeName) (cell : ℕ) → HasCell p cells at cell ↔ HasCell q more at cell

-- a placement with the same cells at the same nodes is as good, and has the same slack
pub record IsKept (p : NetProblem) (cells : List (Option ℕ)) (q : NetProblem) (more : List (Option ℕ)) : Type 0 where
  pub cells_are : HaveSameCells p cells q more
  pub good : IsGood q.problem more
  pub slack : (x : ℤ) → IsSlack p.problem cells x → IsSlack q.problem more x

-- Of a net and the cut net: without cells the slack is the same, each good placement is good there with the same slack,
-- and so the best slack does not fall.
pub record IsNoWorse (p q : NetProblem) : Type 0 where
  pub bare : (cells more : List (Option ℕ)) (x : ℤ) → IsBare p.problem cells → IsBare q.problem more
      → IsSlack p.problem cells x
      → IsSlack q.problem more x
  pub placed : (cells : List (Option ℕ)) → IsGood p.problem cells → (more : List (Option ℕ)) × IsKept p cells q more
  pub best : (cells more : List (Option ℕ)) (x y : ℤ) → IsBest p.problem cells x → IsBest q.problem more y → x ≤ℤ y

-- so it is with every library, netlist and constraints under which the net is accepted in both texts
abbrev pub IsNoWorseIn : List ℕ → List ℕ → List ℕ → Type 0
IsNoWorseIn old new name =
    (lib verilog cons : List ℕ) (d e : Design) → IsDesign (texts_of old lib verilog cons) d
    → IsDesign (texts_of new lib verilog cons) e
    → (p q : NetProblem) → IsNetProblem d name p → IsNetProblem e name q
    → IsNoWorse p q

-- of a net that is cut
abbrev pub CutNetsAreNoWorse : Type 0
CutNetsAreNoWorse = (old new : List ℕ) (parts : ℕ) (name : List ℕ) → 0 < parts → IsCutIn old new parts name
    → IsNoWorseIn old new name
