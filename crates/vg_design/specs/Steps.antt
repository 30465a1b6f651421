-- A net along the sixteen refusals, and what the steps towards its problem answer: for the functions between.
use Rattle.std.specs.Prelude.{◌≡◌, ℕ, ◌<◌, ◌≤◌, ◌&&◌, ◌||◌, Bool, true, false, List, map, length, slice_index_or, Option, Some, None, is_none, is_some, if◌then◌else◌}
use Rattle.std.specs.List.{All, find, list_any}
use Rattle.std.specs.Str.{bytes_eq}
use Rattle.elmore.specs.Problems.{AreRising}
use Rattle.elmore.specs.declared.tree.Node.{Node}
use Rattle.elmore.specs.declared.problem.Problem.{Problem}
use Rattle.lib_linear.specs.Libraries.{Cells}
use Rattle.spef_file.specs.Indexes.{IsIndexOf}
use Rattle.spef_file.specs.declared.spef_index.SpefIndex.{SpefIndex}
use Rattle.spef_net.specs.Sections.{IsSized}
use Rattle.spef_net.specs.declared.net.ParNet.{ParNet}
use Rattle.ver_module.specs.Netlists.{Net as ModuleNet, Netlist, IsSound}
use Rattle.ver_net.specs.Connections.{Connections, connections, pins_on}
use Rattle.ver_net.specs.Laws.{HasLink}
use Rattle.ver_net.specs.declared.pin_ref.PinRef.{PinRef}
use Rattle.ver_module.specs.declared.link.Link.{Link}
use Rattle.vg_cons.specs.Rows.{Rows}
use Rattle.vg_scan.specs.Nodes.{has_node, same_node}
use Rattle.vg_scan.specs.declared.name.NodeName.{NodeName}
use Rattle.spef_wire.specs.Refusals.{number_of, is_sink, IsNetTree}
use Rattle.spef_wire.specs.declared.refusal.Refusal.{Refusal}
use Rattle.spef_wire.specs.declared.refusal.Refused.{Refused}
use Rattle.spef_wire.specs.declared.refusal.Refused.TheVariants.{Net, Memory}
use Rattle.vg_design.specs.Designs.{Design, Joined, agrees, cell_on, ends_of, is_port, name_of, pin_name, pin_on}
use Rattle.vg_design.specs.Parts.{reps_of, IsProblemOf, IsWithinLimits}
use Rattle.vg_design.specs.Refusals.{Holds, IsFirstConn, IsFirstRefusal, IsJoined, is_unconstrained}

-- what a design keeps of its parts
pub record AreParts (text : List ℕ) (index : SpefIndex) (library : Cells) (netlist : Netlist)
    (found : Connections) : Type 0 where
  pub index_of : IsIndexOf text index
  pub rising : AreRising (reps_of library.repeaters)
  pub few : length library.repeaters ≤ 256
  pub sound : IsSound netlist
  pub connected : found ≡ connections netlist

-- no refusal of a smaller number holds of a net
abbrev pub PassesNet : ℕ → Design → Joined → Type 0
PassesNet n d net = (refusal : Refusal) → number_of refusal < n → Holds d net refusal → ⊥

-- the first refusal that holds of a net
pub record IsFirstHeld (d : Design) (net : Joined) (refusal : Refusal) : Type 0 where
  pub holds : Holds d net refusal
  pub first : PassesNet (number_of refusal) d net

-- the first refusal of a net, of a number below n, or out of memory
abbrev pub IsHeldBelow : ℕ → Design → Joined → Refused → Type 0
IsHeldBelow n d net (Net refusal) = IsFirstHeld d net refusal × (number_of refusal < n)
IsHeldBelow n d net Memory = Unit {0}

-- the same of the net of a name
abbrev pub IsRefusedBelow : ℕ → Design → List ℕ → Refused → Type 0
IsRefusedBelow n d name (Net refusal) = IsFirstRefusal d name refusal × (number_of refusal < n)
IsRefusedBelow n d name Memory = Unit {0}

-- ---- ends

-- the ends of a net by the parasitics, each with its pin in the netlist, as far as that was seen
pub record Seen : Type 0 where
  pub ends : List NodeName
  pub pins : List (Option PinRef)

-- a pin of the netlist
abbrev pub IsPin : Netlist → PinRef → Type 0
IsPin netlist at = (link : Link) × HasLink netlist at link

-- the pin of an end
abbrev pub pin_at : List (Option PinRef) → ℕ → Option PinRef
pin_at pins i = slice_index_or pins i None

-- what was seen, where this pin is seen too; the first one counts
abbrev pub pin_or : Option PinRef → PinRef → Option PinRef
pin_or None pin = Some pin
pin_or (Some first) pin = Some first

-- one pin more was seen, whose name is that of an end
pub record IsSeen (old new : Seen) (at : NodeName) (pin : PinRef) : Type 0 where
  pub end : has_node old.ends at ≡ true
  pub ends : new.ends ≡ old.ends
  pub size : length new.pins ≡ length old.pins
  pub pins : (i : ℕ) (end : NodeName) → slice_index_or old.ends i end ≡ end → i < length old.ends
      → pin_at new.pins i ≡ (if same_node end at then pin_or (pin_at old.pins i) pin else pin_at old.pins i)

-- each end has its pin, of those on the net
abbrev pub ArePins : Design → Joined → List (Option PinRef) → Type 0
ArePins d n pins = pins ≡ map (pin_on d.netlist n.id) (ends_of n.par)

-- these pins on a net were seen
pub record AreSeen (d : Design) (n : Joined) (refs : List PinRef) (seen : Seen) : Type 0 where
  pub ends : seen.ends ≡ ends_of n.par
  pub size : length seen.pins ≡ length (ends_of n.par)
  pub pins : (i : ℕ) (end : NodeName) → slice_index_or (ends_of n.par) i end ≡ end → i < length (ends_of n.par)
      → pin_at seen.pins i ≡ find (λ pin. same_node end (pin_name d.netlist pin)) refs
  pub among : (at : NodeName) → has_node (map (pin_name d.netlist) refs) at ≡ true → has_node (ends_of n.par) at ≡ true

-- the names of the pins on a net
abbrev pub pin_names : Design → Joined → List NodeName
pin_names d n = map (pin_name d.netlist) (pins_on d.netlist n.id)

-- the pin on the net of each end; or some pin on the net is no end
abbrev pub FindsPins : Design → Joined → Option (List (Option PinRef)) → Type 0
FindsPins d n (Some pins) =
    ArePins d n pins × ((at : NodeName) → has_node (pin_names d n) at ≡ true → has_node (ends_of n.par) at ≡ true)
FindsPins d n None = (at : NodeName) × (has_node (pin_names d n) at ≡ true) × (has_node (ends_of n.par) at ≡ false)

-- a name is that of the port that a net of the netlist is
abbrev pub is_port_end : ModuleNet → NodeName → Bool
is_port_end net at = is_some net.port && (bytes_eq net.name at.owner && is_port at)

-- each connection has a pin, or is the port
pub record AreEnds (port : ModuleNet) (net : ParNet) (pins : List (Option PinRef)) : Type 0 where
  pub each : (i : ℕ) → i < length net.conns → (is_some (pin_at pins i) || is_port_end port (name_of net i)) ≡ true

-- some connection is the port, where there is one
abbrev pub has_port_end : ModuleNet → ParNet → Bool
has_port_end port net = is_none port.port || list_any (λ conn. is_port_end port (name_of net conn.node)) net.conns

-- the connections of a net are the pins and the port that a net of the netlist has
pub record AreSame (port : ModuleNet) (net : ParNet) (pins : List (Option PinRef)) : Type 0 where
  pub direction : All (λ conn. agrees port.port conn.kind conn.direction ≡ true) net.conns
  pub ends : AreEnds port net pins
  pub port_end : has_port_end port net ≡ true

-- the name of the first sink without a required time, if there is one
abbrev pub FindsUnconstrained : Rows → ParNet → Option NodeName → Type 0
FindsUnconstrained rows net None = find (is_unconstrained rows net) net.conns ≡ None
FindsUnconstrained rows net (Some name) = IsFirstConn net (is_unconstrained rows net) name

-- the cell of the pin that a connection is
abbrev pub cell_at : Design → Joined → ℕ → Option (List ℕ)
cell_at d n v = cell_on d.netlist n.id (name_of n.par v)

-- ---- trees and problems

-- a net with its tree, and with a sink
pub record IsReady (d : Design) (n : Joined) (pins : List (Option PinRef)) (tree : List Node)
    (order : List ℕ) : Type 0 where
  pub a_tree : IsNetTree n.par tree order
  pub sized : IsSized n.par
  pub some_sink : list_any is_sink n.par.conns ≡ true
  pub linked : ArePins d n pins

-- the net of this name, which no refusal of a smaller number refuses
pub record IsAccepted (k : ℕ) (d : Design) (name : List ℕ) (n : Joined) : Type 0 where
  pub joined : IsJoined d name n
  pub passes : PassesNet k d n

-- the problem of a net, or none where it passes a limit
abbrev pub MakesProblem : Design → Joined → List Node → List ℕ → Option Problem → Type 0
MakesProblem d n tree order None = IsWithinLimits d n tree order → ⊥
MakesProblem d n tree order (Some problem) = IsProblemOf d n tree order problem × IsWithinLimits d n tree order
