-- The faults of files, as text.
use Rattle.std.specs.Prelude.{ℕ, List, ◌++◌, codes, decimal}
use Rattle.vg_num.specs.declared.fault.NumFault.{NumFault}
use Rattle.vg_num.specs.declared.fault.NumFault.TheVariants.{Form, Negative, TooLarge}
use Rattle.spef_file.specs.declared.fault.SpefKind.{SpefKind}
use Rattle.spef_file.specs.declared.fault.SpefKind.TheVariants.{Header, Unit as UnitKind, MapTwice, MapUnknown, NoEnd, Stray, NetTwice, Unsupported, Memory as SpefMemory}
use Rattle.vg_scan.specs.declared.fault.LineFault.{LineFault}
use Rattle.spef_net.specs.declared.fault.NetKind.{NetKind}
use Rattle.spef_net.specs.declared.fault.NetKind.TheVariants.{Conn, Cap, Res, Number as NetNumber, Foreign, SelfCoupled, Memory as NetMemory}
use Rattle.lib_cells.specs.declared.fault.LibKind.{LibKind}
use Rattle.lib_cells.specs.declared.fault.LibKind.TheVariants.{Syntax, NotLinear, Slope, Unit as LibUnit, Number as LibNumber, CellTwice, TooManyRepeaters, Memory as LibMemory}
use Rattle.ver_syntax.specs.declared.fault.VerKind.{VerKind}
use Rattle.ver_syntax.specs.declared.fault.VerKind.TheVariants.{Token, Grammar, SecondModule, Positional, Parameter, NameClash, InstanceTwice, Memory as VerMemory}
use Rattle.vg_cons.specs.declared.fault.ConsKind.{ConsKind}
use Rattle.vg_cons.specs.declared.fault.ConsKind.TheVariants.{Version, Word, Number, Twice, Memory}
use Rattle.vg_width.specs.declared.fault.WidthKind.{WidthKind}
use Rattle.vg_width.specs.declared.fault.WidthKind.TheVariants.{Version as WidthVersion, Word as WidthWord, Number as WidthNumber, First, TooMany, Memory as WidthMemory}

abbrev pub number_kind : NumFault → List ℕ
number_kind Form = codes "Form"
number_kind Negative = codes "Negative"
number_kind TooLarge = codes "TooLarge"

abbrev pub cons_kind : ConsKind → List ℕ
cons_kind Version = codes "Version"
cons_kind Word = codes "Word"
cons_kind (Number fault) = codes "Number " ++ number_kind fault
cons_kind Twice = codes "Twice"
cons_kind Memory = codes "Memory"

-- `KIND line L`
abbrev pub cons_fault : LineFault ConsKind → List ℕ
cons_fault fault = cons_kind fault.kind ++ (codes " line " ++ decimal fault.line)

abbrev pub width_kind : WidthKind → List ℕ
width_kind WidthVersion = codes "Version"
width_kind WidthWord = codes "Word"
width_kind WidthNumber = codes "Number"
width_kind First = codes "First"
width_kind TooMany = codes "TooMany"
width_kind WidthMemory = codes "Memory"

abbrev pub width_fault : LineFault WidthKind → List ℕ
width_fault fault = width_kind fault.kind ++ (codes " line " ++ decimal fault.line)

abbrev pub lib_kind : LibKind → List ℕ
lib_kind Syntax = codes "Syntax"
lib_kind NotLinear = codes "NotLinear"
lib_kind Slope = codes "Slope"
lib_kind LibUnit = codes "Unit"
lib_kind (LibNumber fault) = codes "Number " ++ number_kind fault
lib_kind CellTwice = codes "CellTwice"
lib_kind TooManyRepeaters = codes "TooManyRepeaters"
lib_kind LibMemory = codes "Memory"

abbrev pub lib_fault : LineFault LibKind → List ℕ
lib_fault fault = lib_kind fault.kind ++ (codes " line " ++ decimal fault.line)

abbrev pub ver_kind : VerKind → List ℕ
ver_kind Token = codes "Token"
ver_kind Grammar = codes "Grammar"
ver_kind SecondModule = codes "SecondModule"
ver_kind Positional = codes "Positional"
ver_kind Parameter = codes "Parameter"
ver_kind NameClash = codes "NameClash"
ver_kind InstanceTwice = codes "InstanceTwice"
ver_kind VerMemory = codes "Memory"

abbrev pub ver_fault : LineFault VerKind → List ℕ
ver_fault fault = ver_kind fault.kind ++ (codes " line " ++ decimal fault.line)

abbrev pub spef_kind : SpefKind → List ℕ
spef_kind Header = codes "Header"
spef_kind UnitKind = codes "Unit"
spef_kind MapTwice = codes "MapTwice"
spef_kind MapUnknown = codes "MapUnknown"
spef_kind NoEnd = codes "NoEnd"
spef_kind Stray = codes "Stray"
spef_kind NetTwice = codes "NetTwice"
spef_kind Unsupported = codes "Unsupported"
spef_kind SpefMemory = codes "Memory"

abbrev pub spef_fault : LineFault SpefKind → List ℕ
spef_fault fault = spef_kind fault.kind ++ (codes " line " ++ decimal fault.line)

-- the faults of a net's lines
abbrev pub net_kind : NetKind → List ℕ
net_kind Conn = codes "Conn"
net_kind Cap = codes "Cap"
net_kind Res = codes "Res"
net_kind (NetNumber fault) = codes "Number " ++ number_kind fault
net_kind Foreign = codes "Foreign"
net_kind SelfCoupled = codes "SelfCoupled"
net_kind NetMemory = codes "Memory"

abbrev pub net_fault : LineFault NetKind → List ℕ
net_fault fault = net_kind fault.kind ++ (codes " line " ++ decimal fault.line)
