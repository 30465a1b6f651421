-- The nets of a netlist by their names, and what its pins are linked to, by such names.
use Rattle.std.specs.Prelude.{◌≡◌, ℕ, true, List, [], map, Option, None, Some, option_and_then, slice_get, slice_index_or}
use Rattle.ver_module.specs.declared.direction.PortDir.{PortDir}
use Rattle.ver_module.specs.declared.link.Link.{Link}
use Rattle.ver_module.specs.declared.link.Link.TheVariants.{Open, One, Many}
use Rattle.ver_module.specs.Netlists.{Netlist}
use Rattle.ver_net.specs.Connections.{is_tied}
use Rattle.ver_net.specs.Laws.{HasLink}
use Rattle.ver_net.specs.declared.pin_ref.PinRef.{PinRef}
use Rattle.ver_patch_laws.specs.Links.{NamedLink, NetName, name_of_net}

-- ---- nets

-- the names of the nets, by their numbers
abbrev pub names_of : Netlist → List NetName
names_of netlist = map name_of_net netlist.nets

-- past the last net there is none
abbrev pub NO_NET : NetName
NO_NET = record { base = []; bit = None }

-- the name of the net of this number
abbrev pub name_at : Netlist → ℕ → NetName
name_at netlist net = slice_index_or (names_of netlist) net NO_NET

-- the net of this number has this name
abbrev pub IsNumbered : Netlist → ℕ → NetName → Type 0
IsNumbered netlist net name = slice_get (names_of netlist) net ≡ Some name

-- the direction of the port that the net of this number is, if it is one
abbrev pub port_at : Netlist → ℕ → Option PortDir
port_at netlist net = option_and_then (λ n. n.port) (slice_get netlist.nets net)

-- the net of this name is a port with this direction
pub record IsPort (netlist : Netlist) (name : NetName) (direction : PortDir) : Type 0 where
  pub net : ℕ
  pub number : IsNumbered netlist net name
  pub port : port_at netlist net ≡ Some direction

-- more than the pins on the net of this name decides its value
pub record IsTied (netlist : Netlist) (name : NetName) : Type 0 where
  pub net : ℕ
  pub number : IsNumbered netlist net name
  pub tied : is_tied netlist net ≡ true

-- ---- links

-- a link, with the names of its nets
abbrev pub named_link_of : Netlist → Link → NamedLink
named_link_of netlist Open = NamedLink.nothing
named_link_of netlist (One net) = NamedLink.one (name_at netlist net)
named_link_of netlist (Many nets) = NamedLink.several (map (name_at netlist) nets)

-- a pin of a netlist is linked to this
pub record HasNamedLink (netlist : Netlist) (at : PinRef) (named : NamedLink) : Type 0 where
  pub link : Link
  pub has : HasLink netlist at link
  pub is : named_link_of netlist link ≡ named
