-- The other nets of a netlist that is changed.
use Rattle.std.specs.Prelude.{◌≡◌, ◌↔◌, ℕ}
use Rattle.ver_module.specs.Netlists.{Netlist}
use Rattle.ver_net.specs.Connections.{is_tied}
use Rattle.vg_design.specs.Designs.{IsEnd, cell_on, pin_on, port_of}
use Rattle.vg_scan.specs.declared.name.NodeName.{NodeName}

-- A net of a new netlist is as one of the old netlist was: it has the same ends, and each of its pins is of the same
-- cell; it is the same port, or none, and is tied if that was.
pub record IsAsItWas (old : Netlist) (id : ℕ) (new : Netlist) (now : ℕ) : Type 0 where
  pub ends : (at : NodeName) → IsEnd new now at ↔ IsEnd old id at
  pub pins : (at : NodeName) → pin_on new now at ≡ pin_on old id at
  pub cells : (at : NodeName) → cell_on new now at ≡ cell_on old id at
  pub port : port_of new now ≡ port_of old id
  pub tied : is_tied new now ≡ is_tied old id
