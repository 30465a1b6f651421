-- Why a net of a design is refused: sixteen conditions, of which the first counts.
use Rattle.std.specs.Prelude.{◌≡◌, ◌≢◌, ◌⊎◌, ℕ, ◌<◌, ◌&&◌, not, Bool, true, false, List, [], ◌∷◌, length, find, is_none, Some, None}
use Rattle.std.specs.List.{list_any}
use Rattle.elmore.specs.declared.tree.Node.{Node}
use Rattle.spef_net.specs.declared.net.ConnKind.TheVariants.{Pin as PinKind}
use Rattle.spef_net.specs.declared.net.ParConn.{ParConn}
use Rattle.spef_net.specs.declared.net.ParNet.{ParNet}
use Rattle.ver_module.specs.declared.direction.PortDir.TheVariants.{Inout}
use Rattle.ver_net.specs.Connections.{is_tied}
use Rattle.vg_cons.specs.Rows.{Rows, required_of}
use Rattle.vg_scan.specs.declared.name.NodeName.{NodeName}
use Rattle.spef_wire.specs.Nets.{IsMissing, IsNetNamed, IsFaultNamed}
use Rattle.spef_wire.specs.Refusals.{number_of, drivers_of, goes_both_ways, is_sink, IsFirstFloating, IsLooped, IsNetTree}
use Rattle.spef_wire.specs.declared.refusal.Refusal.{Refusal}
use Rattle.spef_wire.specs.declared.refusal.Refusal.TheVariants.{UnknownNet, Section, Reduced, Inductive, Bidirectional, NoDriver, ManyDrivers, Mismatch, Tied, NoDrive, NoLoad, Floating, Loop, NoSink, Unconstrained, TooLarge}
use Rattle.vg_design.specs.Designs.{Design, Joined, name_of, net_number, port_of, is_port, pin_cap_of, pin_drive_of, IsConnected}
use Rattle.vg_design.specs.Parts.{IsWithinLimits}

-- the one driver of a net is a pin without a delay and a resistance
pub record IsWithoutDrive (d : Design) (n : Joined) : Type 0 where
  pub driver : ParConn
  pub alone : drivers_of n.par ≡ driver ∷ []
  pub pin : driver.kind ≡ PinKind
  pub none : pin_drive_of d n (name_of n.par driver.node) ≡ None

-- a sink that is a pin without a capacitance
abbrev pub is_unloaded : Design → Joined → ParConn → Bool
is_unloaded d n conn =
    is_sink conn && (not (is_port (name_of n.par conn.node)) && is_none (pin_cap_of d n (name_of n.par conn.node)))

-- a sink without a required time
abbrev pub is_unconstrained : Rows → ParNet → ParConn → Bool
is_unconstrained rows net conn = is_sink conn && is_none (required_of rows (name_of net conn.node))

-- of the connections of a net the first of some kind has this name
pub record IsFirstConn (net : ParNet) (kind : ParConn → Bool) (name : NodeName) : Type 0 where
  pub conn : ParConn
  pub first : find kind net.conns ≡ Some conn
  pub name_is : name ≡ name_of net conn.node

-- its tree passes a limit
pub record IsPastLimits (d : Design) (n : Joined) : Type 0 where
  pub tree : List Node
  pub order : List ℕ
  pub a_tree : IsNetTree n.par tree order
  pub past : IsWithinLimits d n tree order → ⊥

-- the condition of a refusal, for a net that both the parasitics and the netlist have
abbrev pub Holds : Design → Joined → Refusal → Type 0
Holds d n UnknownNet = ⊥
Holds d n (Section _) = ⊥
Holds d n Reduced = n.par.reduced ≡ true
Holds d n Inductive = n.par.inductive ≡ true
Holds d n Bidirectional = (list_any goes_both_ways n.par.conns ≡ true) ⊎ (port_of d.netlist n.id ≡ Some Inout)
Holds d n NoDriver = drivers_of n.par ≡ []
Holds d n ManyDrivers = 1 < length (drivers_of n.par)
Holds d n Mismatch = IsConnected d.netlist n.id n.par → ⊥
Holds d n Tied = is_tied d.netlist n.id ≡ true
Holds d n NoDrive = IsWithoutDrive d n
Holds d n (NoLoad name) = IsFirstConn n.par (is_unloaded d n) name
Holds d n (Floating name) = IsFirstFloating n.par name
Holds d n Loop = IsLooped n.par
Holds d n NoSink = list_any is_sink n.par.conns ≡ false
Holds d n (Unconstrained name) = IsFirstConn n.par (is_unconstrained d.rows n.par) name
Holds d n TooLarge = IsPastLimits d n

-- the net of this name by the parasitics, and its number in the netlist
pub record IsJoined (d : Design) (name : List ℕ) (n : Joined) : Type 0 where
  pub named : IsNetNamed d.spef name n.par
  pub number : net_number d.netlist name ≡ Some n.id

-- a net of this name has the condition of a refusal
pub record HasNet (d : Design) (name : List ℕ) (refusal : Refusal) : Type 0 where
  pub net : Joined
  pub joined : IsJoined d name net
  pub holds : Holds d net refusal

-- the condition of a refusal, for the net of a name
abbrev pub Refuses : Design → List ℕ → Refusal → Type 0
Refuses d name UnknownNet = IsMissing d.spef name ⊎ (net_number d.netlist name ≡ None)
Refuses d name (Section fault) = IsFaultNamed d.spef name fault
Refuses d name refusal = HasNet d name refusal

-- no refusal of a smaller number has its condition
abbrev pub PassesUpTo : ℕ → Design → List ℕ → Type 0
PassesUpTo n d name = (refusal : Refusal) → number_of refusal < n → Refuses d name refusal → ⊥

-- a net is refused by the first refusal whose condition holds
pub record IsFirstRefusal (d : Design) (name : List ℕ) (refusal : Refusal) : Type 0 where
  pub holds : Refuses d name refusal
  pub first : PassesUpTo (number_of refusal) d name

-- whatever the constraints ask for: none but `Unconstrained` counts
abbrev pub PassesBareUpTo : ℕ → Design → List ℕ → Type 0
PassesBareUpTo n d name =
    (refusal : Refusal) → number_of refusal < n → number_of refusal ≢ 15 → Refuses d name refusal → ⊥

pub record IsFirstBareRefusal (d : Design) (name : List ℕ) (refusal : Refusal) : Type 0 where
  pub holds : Refuses d name refusal
  pub counts : number_of refusal ≢ 15
  pub first : PassesBareUpTo (number_of refusal) d name
