-- New instances have names of their own.
use Rattle.std.specs.Prelude.{List, map}
use Rattle.name_tables.specs.Distinct.{AreNew}
use Rattle.ver_module.specs.Netlists.{Netlist}
use Rattle.ver_patch.specs.NewCells.{NewCell}

-- no new instance has the name of another, or of one that the netlist has
abbrev pub HaveNewNames : Netlist → List NewCell → Type 0
HaveNewNames netlist cells = AreNew (map (λ i. i.name) netlist.instances) (map (λ c. c.name) cells)
