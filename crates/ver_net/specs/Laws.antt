-- What is true of the connections of every module.
use Rattle.std.specs.Prelude.{◌≡◌, ℕ, ◌<◌, ◌↔◌, ◌⊎◌, List, Some, slice_get, true, IsTrue}
use Rattle.std.specs.List.{AllPairs, Contains}
use Rattle.ver_module.specs.declared.link.Link.{Link}
use Rattle.ver_module.specs.declared.link.Link.TheVariants.{One, Many}
use Rattle.ver_module.specs.Netlists.{Net, Pin, Instance, Netlist}
use Rattle.ver_net.specs.declared.pin_ref.PinRef.{PinRef}
use Rattle.ver_net.specs.Connections.{pins_on, is_tied}

-- a pin of a module has this link
pub record HasLink (netlist : Netlist) (at : PinRef) (link : Link) : Type 0 where
  pub instance : Instance
  pub pin : Pin
  pub is_instance : slice_get netlist.instances at.instance ≡ Some instance
  pub is_pin : slice_get instance.pins at.pin ≡ Some pin
  pub has_link : pin.link ≡ link

-- a pin stands before another in the text
abbrev pub IsBefore : PinRef → PinRef → Type 0
IsBefore a b = (a.instance < b.instance) ⊎ ((a.instance ≡ b.instance) × (a.pin < b.pin))

-- the pins on a net are those whose link is this one net
abbrev pub PinsAreLinked : Type 0
PinsAreLinked =
    (netlist : Netlist) (net : ℕ) (at : PinRef) → Contains (pins_on netlist net) at ↔ HasLink netlist at (One net)

-- they stand in the order of the text, each once
abbrev pub PinsRise : Type 0
PinsRise = (netlist : Netlist) (net : ℕ) → AllPairs IsBefore (pins_on netlist net)

-- more than the pins on a net decides its value
pub data IsTied (netlist : Netlist) (net : ℕ) : Type 0 where
  by_supply : (n : Net) → slice_get netlist.nets net ≡ Some n → n.supply ≡ true → IsTied netlist net
  by_assignment : Contains netlist.assigned net → IsTied netlist net
  by_link : (at : PinRef) (nets : List ℕ) → HasLink netlist at (Many nets) → Contains nets net → IsTied netlist net

-- a net is tied exactly where it is a supply, or stands in an assignment, or in a link to several nets
abbrev pub TiedNetsAreShared : Type 0
TiedNetsAreShared = (netlist : Netlist) (net : ℕ) → IsTrue (is_tied netlist net) ↔ IsTied netlist net
