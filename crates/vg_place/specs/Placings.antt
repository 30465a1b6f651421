-- Nets with a placement each, one after another: what is said of them, and the files in which their cells are put.
use Rattle.std.specs.Prelude.{◌≡◌, ℕ, ◌==◌, List, [], ◌∷◌, Option, Some, None, if◌then◌else◌}
use Rattle.elmore.specs.Best.{IsGood}
use Rattle.vg_design.specs.Designs.{Design}
use Rattle.vg_design.specs.Nets.{IsPosedNet}
use Rattle.vg_design.specs.Parts.{cells_of}
use Rattle.vg_design.specs.declared.net_problem.PosedNet.{PosedNet}
use Rattle.vg_change.specs.Changes.{Changes, nothing, HavePut, AreTexts}
use Rattle.vg_change.specs.Placed.{PlacedNet}
use Rattle.vg_change.specs.Steps.{placed_net}
use Rattle.vg_change.specs.Taken.{taken}
use Rattle.vg_slack.specs.declared.answer.Best.{Best}
use Rattle.vg_report.specs.Reports.{best_report, cell_count}
use Rattle.design_read.specs.Designs.{Texts, IsDesign}
use Rattle.vg_answer.specs.Answers.{Written}
use Rattle.vg_answer.specs.Nets.{problem_in}
use Rattle.vg_answer.specs.Verdicts.{Verdict}
use Rattle.vg_answer.specs.declared.kind.AnswerKind.{AnswerKind}
use Rattle.vg_answer.specs.declared.output.Output.TheVariants.{Netlist, Parasitics}

-- A netlist and parasitics.
pub record Files : Type 0 where
  pub verilog : List ℕ
  pub spef : List ℕ

-- the files as they were read
abbrev pub kept : Texts → Files
kept texts = record { verilog = texts.verilog; spef = texts.spef }

-- the four texts are a design, none of whose names begins with the prefix
pub record IsFreeDesign (texts : Texts) (prefix : List ℕ) (design : Design) : Type 0 where
  pub design_of : IsDesign texts design
  pub free : taken design prefix ≡ None

-- a name of the design begins with the prefix, and this is the first
pub record IsTaken (texts : Texts) (prefix name : List ℕ) : Type 0 where
  pub design : Design
  pub design_of : IsDesign texts design
  pub first : taken design prefix ≡ Some name

-- ---- one net

-- the net with the cells of a placement, where it has any
abbrev pub put_of : PosedNet → List (Option ℕ) → List PlacedNet
put_of net cells = if cell_count cells == 0 then [] else placed_net net cells ∷ []

-- what is said of a net that gets this placement, in an answer of this kind
abbrev pub placed_verdict : AnswerKind → Design → List ℕ → PosedNet → Best → Verdict
placed_verdict kind d name net best = record {
  kind = kind;
  text = best_report name (cells_of d.library.repeaters) (problem_in net) best;
  put = put_of net best.placement.cells;
}

-- what is said of a net puts the cells of a good placement of it, or nothing
pub data IsPutSaid (d : Design) (name : List ℕ) (said : Verdict) : Type 0 where
  puts_cells : (net : PosedNet) → IsPosedNet d name net → (cells : List (Option ℕ)) → IsGood net.problem cells
      → said.put ≡ put_of net cells → IsPutSaid d name said
  puts_nothing : said.put ≡ [] → IsPutSaid d name said

-- ---- the files

-- these are the files in which the cells of placements are put into nets, one after another
pub record AreChanged (read : Files) (design : Design) (prefix : List ℕ) (nets : List PlacedNet)
    (files : Files) : Type 0 where
  pub changes : Changes
  pub put : HavePut (nothing design prefix) nets changes
  pub made : AreTexts changes read.spef read.verilog files.spef files.verilog

-- where no net gets a cell, the files are as they were read
pub record AreFilesOf (read : Files) (design : Design) (prefix : List ℕ) (nets : List PlacedNet)
    (files : Files) : Type 0 where
  pub bare : nets ≡ [] → files ≡ read
  pub changed : (nets ≡ [] → ⊥) → AreChanged read design prefix nets files

-- the netlist is written first, then the parasitics
abbrev pub changed_files : Files → List Written
changed_files files =
    record { output = Netlist; text = files.verilog } ∷ record { output = Parasitics; text = files.spef } ∷ []
