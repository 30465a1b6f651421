-- What is true of the netlists of texts by the names of nets, and of the netlist of every changed text.
use Rattle.std.specs.Prelude.{◌≡◌, ◌↔◌, ℕ, true, false, List, None, length, map, Some}
use Rattle.std.specs.List.{Contains}
use Rattle.name_tables.specs.Distinct.{number_of}
use Rattle.ver_text.specs.Names.{is_simple}
use Rattle.ver_module.specs.declared.link.Link.{Link}
use Rattle.ver_module.specs.declared.link.Link.TheVariants.{One}
use Rattle.ver_module.specs.Netlists.{IsWithin, Netlist, net_name}
use Rattle.ver_file.specs.Modules.{Denotes}
use Rattle.ver_net.specs.Connections.{is_tied}
use Rattle.ver_net.specs.Laws.{HasLink}
use Rattle.ver_net.specs.declared.pin_ref.PinRef.{PinRef}
use Rattle.ver_net.specs.Texts.{net_text}
use Rattle.ver_patch.specs.NewCells.{NewCell}
use Rattle.ver_patch.specs.Rewires.{Rewire}
use Rattle.ver_patch_text_laws.specs.Laws.{IsChanged}
use Rattle.ver_patch_laws.specs.Links.{IsLinked, NamedLink, NetName}
use Rattle.ver_patch_laws.specs.Links.NamedLink.{one}
use Rattle.ver_patch_laws.specs.Consistent.{IsConsistent, Writes, wire_name}
use Rattle.ver_patch_laws.specs.Names.{HasNamedLink, IsNumbered, named_link_of, port_at}
use Rattle.ver_patch_laws.specs.Pins.{ArePinsOf, HasPin, PinName}
use Rattle.ver_patch_laws.specs.Renewed.{IsRenewed}

-- ---- every text

-- a pin of a netlist has a link to its nets exactly where the text links it to the nets of those names
abbrev pub LinksAreNamed : Type 0
LinksAreNamed =
    (text : List ℕ) (netlist : Netlist) (at : PinRef) (link : Link) → Denotes text netlist
    → IsWithin (length netlist.nets) link
    → HasLink netlist at link ↔ IsLinked text at (named_link_of netlist link)

-- what the text links a pin to is what the netlist does
abbrev pub NamesAreLinked : Type 0
NamesAreLinked =
    (text : List ℕ) (netlist : Netlist) (at : PinRef) (named : NamedLink) → Denotes text netlist
    → HasNamedLink netlist at named ↔ IsLinked text at named

-- a net to which a pin is linked by its name has a number
abbrev pub LinkedNetsAreThere : Type 0
LinkedNetsAreThere =
    (text : List ℕ) (netlist : Netlist) (at : PinRef) (name : NetName) → Denotes text netlist
    → HasNamedLink netlist at (one name)
    → (net : ℕ) × IsNumbered netlist net name

-- the name of a net determines its number: it is that of the net's name as it is written
abbrev pub NamesDetermineNets : Type 0
NamesDetermineNets =
    (text : List ℕ) (netlist : Netlist) (net : ℕ) (name : NetName) → Denotes text netlist → IsNumbered netlist net name
    → number_of (map (λ n. n.name) netlist.nets) (net_name name.base name.bit) ≡ Some net

-- so the pins on a net are those that are linked to it by its name
abbrev pub LinksGoByNames : Type 0
LinksGoByNames =
    (text : List ℕ) (netlist : Netlist) (at : PinRef) (net : ℕ) (name : NetName) → Denotes text netlist
    → IsNumbered netlist net name
    → HasLink netlist at (One net) ↔ HasNamedLink netlist at (one name)

-- a net may be written, as its text: that is the text of its name
abbrev pub NetsMayBeWritten : Type 0
NetsMayBeWritten =
    (text : List ℕ) (netlist : Netlist) (net : ℕ) (name : NetName) → Denotes text netlist → IsNumbered netlist net name
    → Writes (net_text netlist net) name

-- and so may a wire, as its name
abbrev pub WiresMayBeWritten : Type 0
WiresMayBeWritten = (wire : List ℕ) → is_simple wire ≡ true → Writes wire (wire_name wire)

-- no two pins have one name
abbrev pub PinsDiffer : Type 0
PinsDiffer =
    (text : List ℕ) (netlist : Netlist) (a b : PinRef) (x y : PinName) → Denotes text netlist
    → HasPin netlist a x → HasPin netlist b y
    → x.instance ≡ y.instance → x.pin ≡ y.pin → a ≡ b

-- ---- changed texts

-- the text denotes a netlist, which is the old one with the changes
pub record IsReadAgain (netlist : Netlist) (rewires : List Rewire) (cells : List NewCell) (new : List ℕ) : Type 0 where
  pub renewed : Netlist
  pub denotes : Denotes new renewed
  pub is : IsRenewed netlist rewires cells renewed

-- so it is where names are kept apart, and only nets are written that are there
abbrev pub NetlistsAreRenewed : Type 0
NetlistsAreRenewed =
    (text : List ℕ) (netlist : Netlist) (rewires : List Rewire) (cells : List NewCell)
    (wires : List (List ℕ)) (new : List ℕ)
    → IsChanged text netlist rewires cells wires new → IsConsistent netlist rewires cells wires
    → IsReadAgain netlist rewires cells new

-- ---- renewed netlists

-- its pins are the old ones and those of the new instances
abbrev pub PinsAreRenewed : Type 0
PinsAreRenewed =
    (netlist : Netlist) (rewires : List Rewire) (cells : List NewCell) (renewed : Netlist)
    → IsRenewed netlist rewires cells renewed
    → ArePinsOf netlist cells renewed

-- a net of one netlist and a net of another are the same port, or none, and both are tied, or none is
pub record AreAlike (netlist : Netlist) (net : ℕ) (renewed : Netlist) (now : ℕ) : Type 0 where
  pub port : port_at renewed now ≡ port_at netlist net
  pub tied : is_tied renewed now ≡ is_tied netlist net

-- so are two nets of one name
abbrev pub NetsAreAlike : Type 0
NetsAreAlike =
    (text : List ℕ) (netlist : Netlist) (rewires : List Rewire) (cells : List NewCell) (new : List ℕ)
    (renewed : Netlist) (net now : ℕ) (name : NetName)
    → Denotes text netlist → Denotes new renewed → IsRenewed netlist rewires cells renewed → IsNumbered netlist net name
    → IsNumbered renewed now name
    → AreAlike netlist net renewed now

-- a net that only the new netlist has is no port, and is not tied
abbrev pub NewNetsAreBare : Type 0
NewNetsAreBare =
    (netlist : Netlist) (rewires : List Rewire) (cells : List NewCell) (renewed : Netlist) (now : ℕ) (name : NetName)
    → IsRenewed netlist rewires cells renewed → ((net : ℕ) → IsNumbered netlist net name → ⊥)
    → IsNumbered renewed now name
    → (port_at renewed now ≡ None) × (is_tied renewed now ≡ false)

-- a new wire is such a net: none of the old netlist has its name
abbrev pub WiresAreNew : Type 0
WiresAreNew =
    (netlist : Netlist) (rewires : List Rewire) (cells : List NewCell) (wires : List (List ℕ)) (wire : List ℕ) (net : ℕ)
    → IsConsistent netlist rewires cells wires → Contains wires wire → IsNumbered netlist net (wire_name wire) → ⊥
