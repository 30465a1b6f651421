-- The pins of a netlist by their names.
use Rattle.std.specs.Prelude.{◌≡◌, ◌⊎◌, ℕ, List, Some, slice_get}
use Rattle.ver_module.specs.Netlists.{Instance, Netlist, Pin}
use Rattle.ver_net.specs.declared.pin_ref.PinRef.{PinRef}
use Rattle.ver_patch.specs.NewCells.{NewCell}
use Rattle.ver_patch_laws.specs.Renewed.{new_pin}

-- A pin by its instance's name, the name of the instance's cell, and its own.
pub record PinName : Type 0 where
  pub instance : List ℕ
  pub cell : List ℕ
  pub pin : List ℕ

-- a netlist has a pin of these names here
pub record HasPin (netlist : Netlist) (at : PinRef) (name : PinName) : Type 0 where
  pub instance : Instance
  pub pin : Pin
  pub is_instance : slice_get netlist.instances at.instance ≡ Some instance
  pub is_pin : slice_get instance.pins at.pin ≡ Some pin
  pub named : name ≡ record { instance = instance.name; cell = instance.cell; pin = pin.name }

-- a new instance has its input and its output
abbrev pub input_name : NewCell → PinName
input_name c = record { instance = c.name; cell = c.cell; pin = c.input }

abbrev pub output_name : NewCell → PinName
output_name c = record { instance = c.name; cell = c.cell; pin = c.output }

-- a pin is the input or the output of a new instance
pub record IsNewPin (netlist : Netlist) (cells : List NewCell) (at : PinRef) (name : PinName) : Type 0 where
  pub k : ℕ
  pub cell : NewCell
  pub is : slice_get cells k ≡ Some cell
  pub which : ((at ≡ new_pin netlist k 0) × (name ≡ input_name cell))
      ⊎ ((at ≡ new_pin netlist k 1) × (name ≡ output_name cell))

-- the pins of the new netlist are the old ones, at their places and with their names, and those of the new instances
pub record ArePinsOf (netlist : Netlist) (cells : List NewCell) (renewed : Netlist) : Type 0 where
  pub old : (at : PinRef) (name : PinName) → HasPin netlist at name → HasPin renewed at name
  pub inputs : (k : ℕ) (c : NewCell) → slice_get cells k ≡ Some c → HasPin renewed (new_pin netlist k 0) (input_name c)
  pub outputs : (k : ℕ) (c : NewCell) → slice_get cells k ≡ Some c
      → HasPin renewed (new_pin netlist k 1) (output_name c)
  pub others : (at : PinRef) (name : PinName) → HasPin renewed at name
      → HasPin netlist at name ⊎ IsNewPin netlist cells at name
