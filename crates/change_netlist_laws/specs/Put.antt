-- Cells are put into nets of a design, and its netlist is written anew.
use Rattle.std.specs.Prelude.{◌≡◌, ◌≢◌, ℕ, ◌<◌, ◌^◌, true, List, ◌∷◌, ◌++◌, length}
use Rattle.std.specs.List.{All, AllPairs}
use Rattle.lib_linear.specs.Libraries.{AreOfCells}
use Rattle.lib_laws.specs.NameLaws.{HasNames}
use Rattle.ver_file.specs.Modules.{Denotes}
use Rattle.ver_patch.specs.Patches.{IsPatched}
use Rattle.ver_text.specs.Names.{is_word}
use Rattle.vg_change.specs.Changes.{Changes, HasPut, HavePut, IsChange, nothing, split_behind}
use Rattle.vg_change.specs.Placed.{PlacedNet}
use Rattle.change_spef_laws.specs.Nets.{IsPlacedNet}
use Rattle.vg_design.specs.Designs.{Design}
use Rattle.vg_split.specs.Splits.{Split}

-- The cells of different nets are put into a design, and `new` is the text of its netlist with these changes. The new
-- names begin with a word, the library's repeaters have names, and their pins are what the library says of them.
pub record IsWrittenAnew (verilog : List ℕ) (d : Design) (prefix : List ℕ) (nets : List PlacedNet) (c : Changes)
    (new : List ℕ) : Type 0 where
  pub denotes : Denotes verilog d.netlist
  pub nets_are : All (IsPlacedNet d) nets
  pub differ : AllPairs (λ p q. p.net.id ≢ q.net.id) nets
  pub put : HavePut (nothing d prefix) nets c
  pub change : IsChange c
  pub few : length c.cells < 2 ^ 63
  pub word : is_word prefix ≡ true
  pub names : All HasNames d.library.repeaters
  pub cells : AreOfCells d.library
  pub patched : IsPatched verilog d.netlist c.rewires c.cells c.wires new

-- the net p is one of those, and x is how it is split, behind those that were put before
pub record IsSplitAs (d : Design) (prefix : List ℕ) (nets : List PlacedNet) (c : Changes) (p : PlacedNet)
    (x : Split) : Type 0 where
  pub before : List PlacedNet
  pub after : List PlacedNet
  pub all : nets ≡ before ++ p ∷ after
  pub mid : Changes
  pub next : Changes
  pub were : HavePut (nothing d prefix) before mid
  pub has : HasPut mid p next
  pub more : HavePut next after c
  pub is : x ≡ split_behind mid p
