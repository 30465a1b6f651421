-- The stages of a forest with cells, by their numbers: they begin at the root and at each cell, in the order of the
-- nodes.
use Rattle.std.specs.Prelude.{◌≡◌, ℕ, ◌<◌, true, List, length, map, slice_index}
use Rattle.std.specs.List.{filter}
use Rattle.elmore.specs.Path.{nodes}
use Rattle.elmore.specs.Stage.{in_stage, is_head}
use Rattle.cut_laws.specs.Pieces.{Forest, in_piece}
use Rattle.vg_split.specs.declared.stages.Stages.{Stages}

-- of the first i nodes those at which a stage begins
abbrev pub heads_to : Forest → ℕ → List ℕ
heads_to f i = filter (is_head f.cell) (nodes i)

abbrev pub heads : Forest → List ℕ
heads f = heads_to f f.n

-- of the first i nodes those in the stage of v, and those whose cells end it
abbrev pub members_to : Forest → ℕ → ℕ → List ℕ
members_to f i v = filter (in_piece f v) (nodes i)

abbrev pub members : Forest → ℕ → List ℕ
members f v = members_to f f.n v

-- node w is in the stage with this number, of those that begin at some nodes
pub record IsInStage (f : Forest) (begins : List ℕ) (number w : ℕ) : Type 0 where
  pub number_is : number < length begins
  pub inside : in_stage f.parent f.cell (slice_index begins number) w ≡ true

-- the stages that begin at the first i nodes, with those of their nodes that are among the first j
pub record AreStagesTo (f : Forest) (i j : ℕ) (stages : Stages) : Type 0 where
  pub nodes_are : map (λ members. members.items) stages.nodes.items ≡ map (members_to f j) (heads_to f i)
  pub one_each : length stages.stage_of.items ≡ i
  pub each : (w : ℕ) → w < i → IsInStage f (heads_to f i) (slice_index stages.stage_of.items w) w

-- the stages of the forest
abbrev pub AreStages : Forest → Stages → Type 0
AreStages f stages = AreStagesTo f f.n f.n stages
