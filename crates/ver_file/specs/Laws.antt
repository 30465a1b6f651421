-- What is true of the netlist and of the fault of every text.
use Rattle.std.specs.Prelude.{◌≡◌, ℕ, ◌<◌, List, length, map}
use Rattle.std.specs.List.{All}
use Rattle.name_tables.specs.NameTables.{AreDistinct}
use Rattle.vg_scan.specs.declared.fault.LineFault.{LineFault}
use Rattle.ver_syntax.specs.declared.fault.VerKind.{VerKind}
use Rattle.ver_module.specs.Netlists.{AreWithin, IsNamed, Netlist}
use Rattle.ver_file.specs.Modules.{Denotes, IsFirstFault}

-- a text denotes one netlist at most
abbrev pub ReadsOnce : Type 0
ReadsOnce = (text : List ℕ) (m n : Netlist) → Denotes text m → Denotes text n → m ≡ n

-- it has one first fault at most
abbrev pub FaultsOnce : Type 0
FaultsOnce = (text : List ℕ) (f g : LineFault VerKind) → IsFirstFault text f → IsFirstFault text g → f ≡ g

-- a text that denotes a netlist has no fault
abbrev pub NetlistsAreFaultless : Type 0
NetlistsAreFaultless =
    (text : List ℕ) (m : Netlist) (fault : LineFault VerKind) → Denotes text m → IsFirstFault text fault → ⊥

-- links and assignments have nets of the netlist
abbrev pub LinksAreOwn : Type 0
LinksAreOwn =
    (text : List ℕ) (m : Netlist) → Denotes text m
    → AreWithin (length m.nets) m.instances × All (λ net. net < length m.nets) m.assigned

-- no two nets have one name
abbrev pub NamesAreDistinct : Type 0
NamesAreDistinct = (text : List ℕ) (m : Netlist) → Denotes text m → AreDistinct (map (λ net. net.name) m.nets)

-- each net has the name of its identifier, a bit with its number
abbrev pub NetsAreNamed : Type 0
NetsAreNamed = (text : List ℕ) (m : Netlist) → Denotes text m → All IsNamed m.nets
