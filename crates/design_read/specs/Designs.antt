-- Which four texts are a design, and the first fault of texts that are none.
use Rattle.std.specs.Prelude.{◌≡◌, ℕ, List}
use Rattle.lib_linear.specs.Faults.{IsFirstFault as IsFirstLibFault}
use Rattle.lib_linear.specs.Libraries.{Cells, Denotes as DenotesLibrary}
use Rattle.spef_file.specs.Files.{File, IsFileOf, IsFileFault}
use Rattle.ver_file.specs.Modules.{Denotes as DenotesModule, IsFirstFault as IsFirstVerFault}
use Rattle.ver_module.specs.Netlists.{Netlist}
use Rattle.vg_cons.specs.Faults.{IsFaultless, IsFaultIn}
use Rattle.vg_cons.specs.Lines.{lines_of as cons_lines}
use Rattle.vg_cons.specs.Rows.{Rows, rows_of}
use Rattle.vg_design.specs.Designs.{Design}
use Rattle.vg_scan.specs.Comments.{without_comments}
use Rattle.vg_scan.specs.declared.comments.Comments.TheVariants.{Spef as SpefComments}
use Rattle.design_read.specs.declared.design_fault.DesignFault.{DesignFault}
use Rattle.design_read.specs.declared.design_fault.DesignFault.TheVariants.{Spef, Lib, Ver, Cons, Memory}

-- the texts of the four files
pub record Texts : Type 0 where
  pub spef : List ℕ
  pub lib : List ℕ
  pub verilog : List ℕ
  pub cons : List ℕ

-- these texts
abbrev pub texts_of : List ℕ → List ℕ → List ℕ → List ℕ → Texts
texts_of spef lib verilog cons = record { spef = spef; lib = lib; verilog = verilog; cons = cons }

-- a text is a SPEF file
abbrev pub IsSpef : List ℕ → Type 0
IsSpef text = (said : File) × IsFileOf text said

-- a text is a library
abbrev pub IsLib : List ℕ → Type 0
IsLib text = (said : Cells) × DenotesLibrary text said

-- a text is a module
abbrev pub IsModule : List ℕ → Type 0
IsModule text = (said : Netlist) × DenotesModule text said

-- constraints have these rows
pub record AreRowsOf (text : List ℕ) (rows : Rows) : Type 0 where
  pub faultless : IsFaultless (cons_lines text)
  pub rows_are : rows ≡ rows_of (cons_lines text)

-- four texts are this design; of the SPEF text it has what is no comment
pub record IsDesign (texts : Texts) (design : Design) : Type 0 where
  pub is_spef : IsSpef texts.spef
  pub spef : design.spef ≡ without_comments SpefComments texts.spef
  pub library : DenotesLibrary texts.lib design.library
  pub netlist : DenotesModule texts.verilog design.netlist
  pub rows : AreRowsOf texts.cons design.rows

-- a text of the four has a fault, and those before it have none; or out of memory
abbrev pub IsFirstFault : Texts → DesignFault → Type 0
IsFirstFault texts (Spef fault) = IsFileFault texts.spef fault
IsFirstFault texts (Lib fault) = IsSpef texts.spef × IsFirstLibFault texts.lib fault
IsFirstFault texts (Ver fault) = IsSpef texts.spef × (IsLib texts.lib × IsFirstVerFault texts.verilog fault)
IsFirstFault texts (Cons fault) =
    IsSpef texts.spef × (IsLib texts.lib × (IsModule texts.verilog × IsFaultIn (cons_lines texts.cons) fault))
IsFirstFault texts Memory = Unit {0}

-- this is the design of three texts and of every SPEF text that is, without its comments, the first of these
abbrev pub IsDesignOf : List ℕ → List ℕ → List ℕ → List ℕ → Design → Type 0
IsDesignOf clear lib verilog cons design =
    (spef : List ℕ) → clear ≡ without_comments SpefComments spef → IsDesign (texts_of spef lib verilog cons) design

-- their first fault, or out of memory
abbrev pub IsFirstFaultOf : List ℕ → List ℕ → List ℕ → List ℕ → DesignFault → Type 0
IsFirstFaultOf clear lib verilog cons fault =
    (spef : List ℕ) → clear ≡ without_comments SpefComments spef → IsFirstFault (texts_of spef lib verilog cons) fault
