-- What the netlist of a changed text is, beside the old one: by the names of nets, since their numbers tell nothing of
-- another text.
use Rattle.std.specs.Prelude.{◌≡◌, ◌≢◌, ◌↔◌, ℕ, ◌+◌, List, ◌++◌, map, length, Some, slice_get}
use Rattle.std.specs.List.{All, Contains}
use Rattle.ver_module.specs.declared.direction.PortDir.{PortDir}
use Rattle.ver_module.specs.Netlists.{Netlist}
use Rattle.ver_net.specs.declared.pin_ref.PinRef.{PinRef}
use Rattle.ver_patch.specs.NewCells.{NewCell}
use Rattle.ver_patch.specs.Rewires.{Rewire}
use Rattle.ver_patch_laws.specs.Shapes.{new_shape, shape_of}
use Rattle.ver_patch_laws.specs.Links.{NamedLink, NetName}
use Rattle.ver_patch_laws.specs.Links.NamedLink.{one}
use Rattle.ver_patch_laws.specs.Consistent.{Writes}
use Rattle.ver_patch_laws.specs.Names.{HasNamedLink, IsPort, IsTied}

-- a pin of the new instance of this number among the new ones
abbrev pub new_pin : Netlist → ℕ → ℕ → PinRef
new_pin netlist k pin = record { instance = length netlist.instances + k; pin = pin }

-- no rewire is of this pin
abbrev pub IsKept : List Rewire → PinRef → Type 0
IsKept rewires at = All (λ r. r.at ≢ at) rewires

-- Why a pin of the new netlist is linked to what it is: it was so and stays, it is rewired, or it is the input or the
-- output of a new instance.
pub data HasCause (netlist : Netlist) (rewires : List Rewire) (cells : List NewCell) (at : PinRef)
    (named : NamedLink) : Type 0 where
  stays : HasNamedLink netlist at named → IsKept rewires at → HasCause netlist rewires cells at named
  rewired : (r : Rewire) (name : NetName) → Contains rewires r → r.at ≡ at → Writes r.net name → named ≡ one name
      → HasCause netlist rewires cells at named
  input : (k : ℕ) (c : NewCell) (name : NetName) → slice_get cells k ≡ Some c
      → at ≡ new_pin netlist k 0 → Writes c.from name
      → named ≡ one name → HasCause netlist rewires cells at named
  output : (k : ℕ) (c : NewCell) (name : NetName) → slice_get cells k ≡ Some c
      → at ≡ new_pin netlist k 1 → Writes c.to name
      → named ≡ one name → HasCause netlist rewires cells at named

-- The instances are the old ones and then the new ones. Pins that are not rewired are linked to what they were, those
-- that are to the net that is written, those of new instances to the nets that are written, and no other way. The same
-- nets are ports, with the same directions, and the same nets are tied: new wires are neither.
pub record IsRenewed (netlist : Netlist) (rewires : List Rewire) (cells : List NewCell)
    (renewed : Netlist) : Type 0 where
  pub instances : map shape_of renewed.instances ≡ map shape_of netlist.instances ++ map new_shape cells
  pub stay : (at : PinRef) (named : NamedLink) → HasNamedLink netlist at named → IsKept rewires at
      → HasNamedLink renewed at named
  pub rewired : (r : Rewire) (name : NetName) → Contains rewires r → Writes r.net name
      → HasNamedLink renewed r.at (one name)
  pub inputs : (k : ℕ) (c : NewCell) (name : NetName) → slice_get cells k ≡ Some c → Writes c.from name
      → HasNamedLink renewed (new_pin netlist k 0) (one name)
  pub outputs : (k : ℕ) (c : NewCell) (name : NetName) → slice_get cells k ≡ Some c → Writes c.to name
      → HasNamedLink renewed (new_pin netlist k 1) (one name)
  pub caused : (at : PinRef) (named : NamedLink) → HasNamedLink renewed at named
      → HasCause netlist rewires cells at named
  pub ports : (name : NetName) (direction : PortDir) → IsPort netlist name direction ↔ IsPort renewed name direction
  pub tied : (name : NetName) → IsTied netlist name ↔ IsTied renewed name
