-- What reading one of the files answers where it has a fault: for the functions between.
use Rattle.std.specs.Prelude.{ℕ, List}
use Rattle.lib_linear.specs.Faults.{IsFirstFault as IsFirstLibFault}
use Rattle.spef_file.specs.Files.{IsFileFault}
use Rattle.ver_file.specs.Modules.{IsFirstFault as IsFirstVerFault}
use Rattle.vg_cons.specs.Faults.{IsFaultIn}
use Rattle.vg_cons.specs.Lines.{lines_of as cons_lines}
use Rattle.design_read.specs.declared.design_fault.DesignFault.{DesignFault}
use Rattle.design_read.specs.declared.design_fault.DesignFault.TheVariants.{Spef, Lib, Ver, Cons, Memory}

abbrev pub SpefRefused : List ℕ → DesignFault → Type 0
SpefRefused text (Spef fault) = IsFileFault text fault
SpefRefused text Memory = Unit {0}
SpefRefused text _ = ⊥

abbrev pub LibRefused : List ℕ → DesignFault → Type 0
LibRefused text (Lib fault) = IsFirstLibFault text fault
LibRefused text Memory = Unit {0}
LibRefused text _ = ⊥

abbrev pub VerRefused : List ℕ → DesignFault → Type 0
VerRefused text (Ver fault) = IsFirstVerFault text fault
VerRefused text Memory = Unit {0}
VerRefused text _ = ⊥

abbrev pub ConsRefused : List ℕ → DesignFault → Type 0
ConsRefused text (Cons fault) = IsFaultIn (cons_lines text) fault
ConsRefused text Memory = Unit {0}
ConsRefused text _ = ⊥
