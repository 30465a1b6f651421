-- Four texts are one design, and a design has no fault.
use Rattle.std.proofs.Common.{◌≡◌, ℕ, ◌-◌, List, inl, inr, refl, sym, ◌∙◌, arith, Some, None}
use Rattle.std.proofs.lemmas.Bool.{false≢true}
use Rattle.lib_cells.specs.declared.fault.LibKind.{LibKind}
use Rattle.lib_linear.proofs.LawLemmas.{excludes}
use Rattle.lib_linear.proofs.RepeaterLaws.{one_library}
use Rattle.lib_linear.specs.Faults.{IsFirstFault as IsFirstLibFault}
use Rattle.lib_linear.specs.Libraries.{Cells, Denotes as DenotesLibrary}
use Rattle.spef_file.proofs.LawLemmas.{file_or_fault}
use Rattle.ver_file.proofs.LawLemmas.{netlists_are_faultless}
use Rattle.ver_file.specs.Modules.{Denotes as DenotesModule, IsFirstFault as IsFirstVerFault}
use Rattle.ver_module.specs.Netlists.{Netlist}
use Rattle.ver_syntax.specs.declared.fault.VerKind.{VerKind}
use Rattle.vg_cons.specs.Faults.{IsFaultless, IsFaultIn}
use Rattle.vg_cons.specs.Lines.{lines_of}
use Rattle.vg_cons.specs.declared.fault.ConsKind.{ConsKind}
use Rattle.design_read.specs.Laws.{OneDesign, DesignsAreFaultless}
use Rattle.design_read.specs.declared.design_fault.DesignFault.TheVariants.{Spef, Lib, Ver, Cons, Memory}
use Rattle.vg_scan.specs.declared.fault.LineFault.{LineFault}

-- constraints are faultless or faulty
pub apart_faults : (text : List ℕ) (fault : LineFault ConsKind) → IsFaultless (lines_of text) → IsFaultIn (lines_of text) fault → ⊥
apart_faults text fault good (inl first) = let none : None ≡ Some fault.kind = sym (good.clear (fault.line - 1) (omega (arith, first.counted, first.within))) ∙ first.here in cc
apart_faults text fault good (inr missing) = false≢true (sym missing.empty ∙ good.heading)

pub library_apart : (text : List ℕ) (said : Cells) (fault : LineFault LibKind) → DenotesLibrary text said → IsFirstLibFault text fault → ⊥
library_apart = excludes

pub module_apart : (text : List ℕ) (said : Netlist) (fault : LineFault VerKind) → DenotesModule text said → IsFirstVerFault text fault → ⊥
module_apart = netlists_are_faultless

pub one_is : OneDesign
one_is texts a b p q =
    let spef = p.spef ∙ sym q.spef in
    let library = one_library texts.lib a.library b.library p.library q.library in
    let netlist = p.netlist.is ∙ sym q.netlist.is in
    let rows = p.rows.rows_are ∙ sym q.rows.rows_are in
    λ i. record { spef = spef i; library = library i; netlist = netlist i; rows = rows i }

pub none_is : DesignsAreFaultless
none_is texts d (Spef fault) is room first = file_or_fault texts.spef is.is_spef.0 fault is.is_spef.1 first
none_is texts d (Lib fault) is room first = library_apart texts.lib d.library fault is.library first.1
none_is texts d (Ver fault) is room first = module_apart texts.verilog d.netlist fault is.netlist first.1.1
none_is texts d (Cons fault) is room first = apart_faults texts.cons fault is.rows.faultless first.1.1.1
none_is texts d Memory is room first = room refl
