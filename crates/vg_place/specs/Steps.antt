-- What is said of nets with a placement each, one after another, and what is replaced in the texts of their design: for
-- the functions between.
use Rattle.std.specs.Prelude.{◌≡◌, ℕ, ◌||◌, Bool, true, false, List, [], ◌∷◌, ◌++◌, length}
use Rattle.std.specs.List.{flat_map}
use Rattle.ver_file.specs.Modules.{Denotes}
use Rattle.vg_change.specs.Changes.{Changes, HavePut, nothing}
use Rattle.vg_change.specs.Patches.{ArePatchesOf}
use Rattle.vg_change.specs.Placed.{PlacedNet}
use Rattle.vg_change.specs.declared.changes.Patches.{Patches}
use Rattle.vg_design.specs.Designs.{Design}
use Rattle.vg_patch.specs.Edits.{Rise, patched}
use Rattle.vg_answer.specs.Answers.{Said}
use Rattle.vg_answer.specs.Verdicts.{Verdict, AreSaid, put_in, worse}
use Rattle.vg_answer.specs.declared.kind.AnswerKind.TheVariants.{Report}
use Rattle.vg_place.specs.Placings.{AreFilesOf, Files, changed_files}
use Rattle.vg_place.specs.declared.judged.Judged.{Judged}
use Rattle.vg_place.specs.declared.judging.Judging.{Judging}

abbrev pub has_any : List PlacedNet → Bool
has_any [] = false
has_any (net ∷ nets) = true

-- cells were put into these nets, and it is told whether there are any
pub record ArePut (old : Changes) (nets : List PlacedNet) (new : Changes) (changed : Bool) : Type 0 where
  pub put : HavePut old nets new
  pub told : changed ≡ has_any nets

-- nothing is said yet, and these are the changes
pub record IsBegun (changes : Changes) (all : Judging) : Type 0 where
  pub same : all.changes ≡ changes
  pub changed : all.changed ≡ false
  pub kind : all.kind ≡ Report
  pub text : all.text.items ≡ []

-- what was said before, and what is said of one net more
pub record IsOneMore (old : Judging) (verdict : Verdict) (new : Judging) : Type 0 where
  pub put : HavePut old.changes verdict.put new.changes
  pub changed : new.changed ≡ (old.changed || has_any verdict.put)
  pub kind : new.kind ≡ worse old.kind verdict.kind
  pub text : new.text.items ≡ old.text.items ++ verdict.text

-- these nets are judged, with nothing before, where this may be said of each
pub record AreJudged (Says : List ℕ → Verdict → Type 0) (d : Design) (prefix : List ℕ) (names : List (List ℕ))
    (all : Judging) : Type 0 where
  pub nets : AreSaid Says names all.kind all.text.items
  pub put : ArePut (nothing d prefix) (flat_map put_in nets.verdicts) all.changes all.changed

-- ---- what is replaced in the texts of a design

-- it can be replaced in each text of the design
pub record FitIn (d : Design) (patches : Patches) : Type 0 where
  pub verilog : (text : List ℕ) → Denotes text d.netlist → Rise 0 (length text) patches.verilog
  pub spef : Rise 0 (length d.spef) patches.spef

-- what comes of these texts
abbrev pub files_with : Patches → Files → Files
files_with patches read =
    record { verilog = patched read.verilog patches.verilog; spef = patched read.spef patches.spef }

-- of each text of the design it makes one in which these nets have their cells
pub record ArePatchesFor (d : Design) (prefix : List ℕ) (nets : List PlacedNet) (patches : Patches) : Type 0 where
  pub fit : FitIn d patches
  pub make : (read : Files) → Denotes read.verilog d.netlist → AreFilesOf read d prefix nets (files_with patches read)

-- where nothing changed, nothing is replaced; else what makes the texts have the change
abbrev pub HaveChange : Changes → Bool → Patches → Type 0
HaveChange c false patches = (patches.verilog ≡ []) × (patches.spef ≡ [])
HaveChange c true patches = ArePatchesOf c patches

-- what was said is kept, with what is to be replaced for it
pub record IsFinished (all : Judging) (found : Judged) : Type 0 where
  pub kind : found.kind ≡ all.kind
  pub text : found.text.items ≡ all.text.items
  pub patches : HaveChange all.changes all.changed found.patches

-- what is said where these are the texts of the design
abbrev pub said_with : Judged → Files → Said
said_with found read = record { text = found.text.items; files = changed_files (files_with found.patches read) }
