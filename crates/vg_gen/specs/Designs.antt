-- Generated designs.
use Rattle.std.specs.Prelude.{◌≡◌, ℕ}
use Rattle.vg_gen.specs.declared.design.Generated.{Generated}
use Rattle.vg_gen.specs.Nets.{branch_count}
use Rattle.vg_gen.specs.Texts.{spef_text, library_text, netlist_text, constraints_text}

-- these are the texts of the design of this size
pub record IsDesign (size : ℕ) (design : Generated) : Type 0 where
  pub spef : design.spef.items ≡ spef_text size
  pub lib : design.lib.items ≡ library_text
  pub verilog : design.verilog.items ≡ netlist_text (branch_count size)
  pub cons : design.cons.items ≡ constraints_text (branch_count size)
