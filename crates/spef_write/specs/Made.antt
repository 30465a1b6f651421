-- The parts of which the section of a net is made.
use Rattle.std.specs.Prelude.{◌≡◌}
use Rattle.spef_net.specs.declared.net.ParNet.{ParNet}
use Rattle.vg_scan.specs.declared.chars.Chars.{Chars}
use Rattle.spef_write.specs.Printed.{printed_all}
use Rattle.spef_write.specs.Sections.{cap_nodes, total}
use Rattle.spef_write.specs.declared.section.Section.{Section}

-- these are the parts of the section of a net: its name and its capacitance, what is printed of its nodes, its
-- connections, the nodes of its capacitors and its resistors
pub record IsSectionOf (chars : Chars) (net : ParNet) (section : Section) : Type 0 where
  pub name : section.name.now ≡ net.name
  pub charge : section.charge ≡ total net.caps
  pub nodes : section.nodes.now ≡ printed_all chars net.caps 0 net.nodes
  pub conns : section.conns.now ≡ net.conns
  pub cap_nodes : section.cap_nodes.now ≡ cap_nodes net.caps
  pub ress : section.ress.now ≡ net.ress
