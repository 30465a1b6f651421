-- What is said of a text without its comments is said of the text; and faults that are handed on.
use Rattle.std.proofs.Common.{◌≡◌, ℕ, List, ap, ◌∙◌}
use Rattle.spef_file.proofs.LawLemmas.{file_along, fault_along}
use Rattle.spef_file.specs.Files.{File, IsFileOf}
use Rattle.design_read.specs.Designs.{Texts, IsSpef, IsLib, IsModule, IsFirstFault}
use Rattle.design_read.specs.Steps.{SpefRefused, LibRefused, VerRefused, ConsRefused}
use Rattle.design_read.specs.declared.design_fault.DesignFault.{DesignFault}
use Rattle.design_read.specs.declared.design_fault.DesignFault.TheVariants.{Spef, Lib, Ver, Cons, Memory}
use Rattle.vg_scan.proofs.AgainLemmas.{without_again}
use Rattle.vg_scan.specs.Comments.{without_comments}
use Rattle.vg_scan.specs.Lines.{lines_of}
use Rattle.vg_scan.specs.declared.comments.Comments.TheVariants.{Spef as SpefComments}

module _ (raw clear : List ℕ) (is : clear ≡ without_comments SpefComments raw) where
  same : without_comments SpefComments clear ≡ without_comments SpefComments raw
  same = ap (without_comments SpefComments) is ∙ without_again SpefComments raw

  -- the file of a text without its comments
  pub file_is : (file : File) → IsFileOf clear file → IsSpef raw
  file_is file said = (file, file_along clear raw file (ap lines_of same) said)

  -- a fault of it
  pub spef_first : (lib verilog cons : List ℕ) (fault : DesignFault) → SpefRefused clear fault → IsFirstFault (record { spef = raw; lib = lib; verilog = verilog; cons = cons }) fault
  spef_first lib verilog cons (Spef fault) found = fault_along clear raw fault (ap lines_of same) found
  spef_first lib verilog cons (Lib fault) found = absurd found
  spef_first lib verilog cons (Ver fault) found = absurd found
  spef_first lib verilog cons (Cons fault) found = absurd found
  spef_first lib verilog cons Memory found = tt

pub lib_first : (texts : Texts) (fault : DesignFault) → IsSpef texts.spef → LibRefused texts.lib fault → IsFirstFault texts fault
lib_first texts (Lib fault) spef found = (spef, found)
lib_first texts (Spef fault) spef found = absurd found
lib_first texts (Ver fault) spef found = absurd found
lib_first texts (Cons fault) spef found = absurd found
lib_first texts Memory spef found = tt

pub ver_first : (texts : Texts) (fault : DesignFault) → IsSpef texts.spef → IsLib texts.lib → VerRefused texts.verilog fault → IsFirstFault texts fault
ver_first texts (Ver fault) spef lib found = (spef, (lib, found))
ver_first texts (Spef fault) spef lib found = absurd found
ver_first texts (Lib fault) spef lib found = absurd found
ver_first texts (Cons fault) spef lib found = absurd found
ver_first texts Memory spef lib found = tt

pub cons_first : (texts : Texts) (fault : DesignFault) → IsSpef texts.spef → IsLib texts.lib → IsModule texts.verilog → ConsRefused texts.cons fault → IsFirstFault texts fault
cons_first texts (Cons fault) spef lib ver found = (spef, (lib, (ver, found)))
cons_first texts (Spef fault) spef lib ver found = absurd found
cons_first texts (Lib fault) spef lib ver found = absurd found
cons_first texts (Ver fault) spef lib ver found = absurd found
cons_first texts Memory spef lib ver found = tt
