-- The texts of a changed design are a design.
use Rattle.std.proofs.Common.{ℕ, List, refl, sym, subst}
use Rattle.lib_linear.specs.Libraries.{Denotes as DenotesLibrary}
use Rattle.lib_laws.proofs.NameLemmas.{are_names_of}
use Rattle.spef_file.specs.Files.{File, IsFileOf}
use Rattle.ver_patch.specs.Patches.{IsPatched}
use Rattle.ver_patch_laws.specs.Laws.{IsReadAgain}
use Rattle.vg_change.specs.Changes.{nothing}
use Rattle.vg_change.specs.Placed.{PlacedNet}
use Rattle.change_spef_laws.proofs.ReadLemmas.{changed_nets}
use Rattle.change_spef_laws.specs.Nets.{HasStages, IsChangeBy, splits}
use Rattle.vg_design.specs.Designs.{Design}
use Rattle.design_read.specs.Designs.{AreRowsOf, IsDesign, IsSpef, Texts}
use Rattle.vg_patch.specs.Edits.{patched}
use Rattle.change_netlist_laws.proofs.ConsistentLemmas.{netlists_are_read_again}
use Rattle.change_netlist_laws.proofs.PrefixLemmas.{prefixes_are_words}
use Rattle.change_netlist_laws.proofs.PutLemmas.{Come, come}
use Rattle.change_netlist_laws.specs.Put.{IsWrittenAnew}
use Rattle.vg_scan.specs.Comments.{without_comments}
use Rattle.vg_scan.specs.declared.comments.Comments.TheVariants.{Spef}
use Rattle.change_laws.proofs.FewLemmas.{few}
use Rattle.change_laws.proofs.LibraryLemmas.{of_cells}
use Rattle.change_laws.specs.Laws.{ChangedTextsAreADesign}
use Rattle.change_laws.specs.Written.{AreWrittenAnew}

module _ (texts : Texts) (d : Design) (prefix : List ℕ) (nets : List PlacedNet) (new : Texts) (w : AreWrittenAnew texts d prefix nets new) where
  pub by : IsChangeBy d prefix nets w.changes
  by = record { each = w.nets_are; put = w.put; keeps = w.keeps }

  comes : Come d prefix (nothing d prefix) nets w.changes
  comes = come d prefix nets (nothing d prefix) w.changes refl refl w.put

  -- ---- the parasitics

  abbrev spef_with : List ℕ
  spef_with = patched texts.spef w.changes.sections

  parasitics : ((said : File) × IsFileOf spef_with said) × HasStages d.spef (without_comments Spef spef_with) (splits d prefix 0 nets)
  parasitics = changed_nets d prefix nets w.changes texts.spef w.design.is_spef.0 w.design.spef w.design.is_spef.1 by

  pub stages : HasStages d.spef (without_comments Spef new.spef) (splits d prefix 0 nets)
  stages = subst (λ (t : List ℕ). HasStages d.spef (without_comments Spef t) (splits d prefix 0 nets)) (sym w.texts_are.written.parasitics) parasitics.1

  -- ---- the netlist

  pub netlist : IsWrittenAnew texts.verilog d prefix nets w.changes new.verilog
  netlist = record {
    denotes = w.design.netlist;
    nets_are = w.nets_are;
    differ = w.differ;
    put = w.put;
    change = w.keeps;
    few = few d prefix nets w.changes by;
    word = prefixes_are_words prefix w.prefix_is;
    names = are_names_of texts.lib d.library w.design.library;
    cells = of_cells texts.lib d.library w.design.library;
    patched =
        subst (λ (e : Design). IsPatched texts.verilog e.netlist w.changes.rewires w.changes.cells w.changes.wires new.verilog) comes.design w.texts_are.written.netlist;
  }

  pub renewed : IsReadAgain d.netlist w.changes.rewires w.changes.cells new.verilog
  renewed = netlists_are_read_again texts.verilog d prefix nets w.changes new.verilog netlist

  -- ---- the whole

  abbrev pub again : Design
  again = record { spef = without_comments Spef new.spef; library = d.library; netlist = renewed.renewed; rows = d.rows }

  pub is_design : IsDesign new again
  is_design = record {
    is_spef = subst IsSpef (sym w.texts_are.written.parasitics) parasitics.0;
    spef = refl;
    library = subst (λ (t : Texts). DenotesLibrary t.lib d.library) (sym w.texts_are.others) w.design.library;
    netlist = renewed.denotes;
    rows = subst (λ (t : Texts). AreRowsOf t.cons d.rows) (sym w.texts_are.others) w.design.rows;
  }

pub changed_texts : ChangedTextsAreADesign
changed_texts texts d prefix nets new w =
    record { design = again texts d prefix nets new w; is = is_design texts d prefix nets new w; library = refl; rows = refl }
