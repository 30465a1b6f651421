-- What the steps towards a net's tree answer.
use Rattle.std.specs.Prelude.{◌≡◌, ℕ, ℤ, ◌<◌, Bool, true, false, List, [], ◌∷◌, ◌++◌, length}
use Rattle.rc_tree.specs.Faults.{IsFaultOf}
use Rattle.rc_tree.specs.declared.fault.TreeFault.{TreeFault}
use Rattle.vg_scan.specs.declared.name.NodeName.{NodeName}
use Rattle.spef_net.specs.declared.net.ParConn.{ParConn}
use Rattle.spef_net.specs.declared.net.ParNet.{ParNet}
use Rattle.spef_wire.specs.Refusals.{number_of, IsDrivenAt, IsFirstRefusal, IsNamed}
use Rattle.spef_wire.specs.declared.ends.Drivers.{Drivers}
use Rattle.spef_wire.specs.declared.ends.Drivers.TheVariants.{Nothing, One, Several}
use Rattle.spef_wire.specs.declared.refusal.Refused.{Refused}
use Rattle.spef_wire.specs.declared.refusal.Refused.TheVariants.{Net, Memory}

-- whether drivers are none, one or several
abbrev pub AreDrivers : List ParConn → Drivers → Type 0
AreDrivers drivers Nothing = drivers ≡ []
AreDrivers drivers (One driver) = drivers ≡ driver ∷ []
AreDrivers drivers Several = 1 < length drivers

-- the first refusal of a net, of a number below n, or out of memory
abbrev pub IsRefusedFirst : ℕ → ParNet → Refused → Type 0
IsRefusedFirst n net (Net refusal) = IsFirstRefusal net refusal × (number_of refusal < n)
IsRefusedFirst n net Memory = Unit {0}

-- why the resistors of a driven net are no tree
pub record IsNoTree (net : ParNet) (fault : TreeFault) : Type 0 where
  pub root : ℕ
  pub driven : IsDrivenAt net root
  pub fault_is : IsFaultOf (length net.nodes) net.ress root fault

-- a row with the name of the net's node v, and this delay (zs), is put behind others
pub record HasRowOf (net : ParNet) (v : ℕ) (delay : ℤ) (before after : List (NodeName × ℤ)) : Type 0 where
  pub name : NodeName
  pub named : IsNamed net v name
  pub rows : after ≡ before ++ (name, delay) ∷ []

-- where v is a sink's node, and nothing where it is none
abbrev pub IsSinkPushed : ParNet → ℕ → ℤ → Bool → List (NodeName × ℤ) → List (NodeName × ℤ) → Type 0
IsSinkPushed net v delay false before after = after ≡ before
IsSinkPushed net v delay true before after = HasRowOf net v delay before after
