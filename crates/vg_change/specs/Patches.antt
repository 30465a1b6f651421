-- What is replaced in the texts of a design, so that they have a change.
use Rattle.std.specs.Prelude.{ℕ, List, length}
use Rattle.ver_file.specs.Modules.{Denotes}
use Rattle.vg_patch.specs.Edits.{Rise, patched}
use Rattle.vg_change.specs.Changes.{AreTexts, Changes}
use Rattle.vg_change.specs.declared.changes.Patches.{Patches}

-- in all texts of the design these parts can be replaced, and what comes of the texts are those of the change
pub record ArePatchesOf (c : Changes) (patches : Patches) : Type 0 where
  pub fit_verilog : (verilog : List ℕ) → Denotes verilog c.design.netlist → Rise 0 (length verilog) patches.verilog
  pub fit_spef : Rise 0 (length c.design.spef) patches.spef
  pub make : (spef verilog : List ℕ) → Denotes verilog c.design.netlist
      → AreTexts c spef verilog (patched spef patches.spef) (patched verilog patches.verilog)
