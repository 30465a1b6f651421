-- Nets of a design in which cells are put, one after another, and the nets of their stages, read from another text.
use Rattle.std.specs.Prelude.{◌≡◌, ℕ, ◌+◌, ◌<◌, List, [], ◌∷◌, length}
use Rattle.std.specs.List.{All, Contains}
use Rattle.elmore.specs.Legal.{IsPlaced}
use Rattle.elmore.specs.Placements.{IsPlacement}
use Rattle.spef_file.specs.Files.{File, file_lines, said_by, IsFileOf}
use Rattle.spef_file.specs.HeaderLines.{chars_of}
use Rattle.spef_net.specs.declared.fault.NetKind.{NetKind}
use Rattle.spef_net.specs.declared.net.ParNet.{ParNet}
use Rattle.vg_change.specs.Changes.{Changes, HavePut, IsChange, nothing}
use Rattle.vg_change.specs.Placed.{PlacedNet, cell_stages, split_of}
use Rattle.vg_change.specs.Steps.{placed_net}
use Rattle.vg_design.specs.Designs.{Design}
use Rattle.vg_design.specs.Nets.{IsPosedNet}
use Rattle.vg_design.specs.declared.net_problem.PosedNet.{PosedNet}
use Rattle.vg_scan.specs.declared.chars.Chars.{Chars}
use Rattle.vg_scan.specs.declared.fault.LineFault.{LineFault}
use Rattle.vg_split.specs.Splits.{Split, forest, net_of, IsStageNet}
use Rattle.spef_patch_laws.specs.ReplacementLaws.{HasSameNet}
use Rattle.vg_split.specs.Stages.{heads}
use Rattle.spef_wire.specs.Nets.{IsFaultNamed, IsNetNamed}
use Rattle.spef_write.specs.SectionLaws.{IsWrittenAgain}

-- a net of a design, with the cells of a placement of its problem
pub record IsPlacedNet (d : Design) (p : PlacedNet) : Type 0 where
  pub name : List ℕ
  pub posed : PosedNet
  pub net : IsPosedNet d name posed
  pub placement : IsPlacement posed.problem p.cells
  pub placed : IsPlaced posed.problem p.cells
  pub is : p ≡ placed_net posed p.cells

-- what changes in a design when cells are put into these nets, one after another
pub record IsChangeBy (d : Design) (prefix : List ℕ) (nets : List PlacedNet) (c : Changes) : Type 0 where
  pub each : All (IsPlacedNet d) nets
  pub put : HavePut (nothing d prefix) nets c
  pub keeps : IsChange c

-- the nets as they are split; their cells are numbered over all of them, from this number on
abbrev pub splits : Design → List ℕ → ℕ → List PlacedNet → List Split
splits d prefix first [] = []
splits d prefix first (p ∷ nets) =
    split_of d prefix first p ∷ splits d prefix (first + length (cell_stages (split_of d prefix first p))) nets

-- ---- read from a text

-- the name is that of the net of a stage
pub record IsStageName (xs : List Split) (name : List ℕ) : Type 0 where
  pub x : Split
  pub there : Contains xs x
  pub stage : ℕ
  pub low : stage < length (heads (forest x))
  pub is : name ≡ net_of x stage

-- a text has, without a fault, a net of the name of a stage's net, and what is read of it is the stage's net again
pub record IsStageRead (text : List ℕ) (chars : Chars) (x : Split) (stage : ℕ) : Type 0 where
  pub net : ParNet
  pub stage_net : IsStageNet chars x stage net
  pub read : ParNet
  pub named : IsNetNamed text (net_of x stage) read
  pub again : (other : ParNet) → IsNetNamed text (net_of x stage) other → IsWrittenAgain net other
  pub clear : (fault : LineFault NetKind) → IsFaultNamed text (net_of x stage) fault → ⊥

-- A text is a file that says of the header and the name map what another says, and has its nets with these split:
-- without a fault, it has the net of each stage, and of all other names the net that the other has.
pub record HasStages (text new : List ℕ) (xs : List Split) : Type 0 where
  pub said : File
  pub file : IsFileOf new said
  pub same : said ≡ record (said_by (file_lines text)) { nets = said.nets }
  pub stages : All (λ x. (k : ℕ) → k < length (heads (forest x)) → IsStageRead new (chars_of (file_lines text)) x k) xs
  pub kept : (name : List ℕ) → (IsStageName xs name → ⊥) → HasSameNet text new name
