-- Changes of a netlist that keep its names apart, and write only nets that are there.
use Rattle.std.specs.Prelude.{◌≡◌, ◌≢◌, ◌⊎◌, ℕ, List, ◌++◌, map, None}
use Rattle.std.specs.List.{All, Contains}
use Rattle.name_tables.specs.Distinct.{AreNew}
use Rattle.ver_module.specs.Netlists.{Netlist}
use Rattle.ver_patch.specs.NewCells.{NewCell}
use Rattle.ver_patch.specs.Rewires.{Rewire}
use Rattle.ver_patch_text_laws.specs.Texts.{IsNetText}
use Rattle.ver_patch_laws.specs.NewNames.{HaveNewNames}
use Rattle.ver_patch_laws.specs.Links.{NetName, name_of_net}
use Rattle.ver_patch_laws.specs.Names.{names_of}

-- a text is that of the net of this name
pub record Writes (text : List ℕ) (name : NetName) : Type 0 where
  pub net : IsNetText text
  pub is : name_of_net net.net ≡ name

-- a new wire is a scalar
abbrev pub wire_name : List ℕ → NetName
wire_name wire = record { base = wire; bit = None }

-- a net of this name is there: one of the netlist, or a new wire
abbrev pub IsThere : Netlist → List (List ℕ) → NetName → Type 0
IsThere netlist wires name = Contains (names_of netlist) name ⊎ Contains (map wire_name wires) name

-- a text is that of a net that is there
pub record WritesOne (netlist : Netlist) (wires : List (List ℕ)) (text : List ℕ) : Type 0 where
  pub name : NetName
  pub writes : Writes text name
  pub there : IsThere netlist wires name

-- the names that no new wire may have: those of nets, and those of the vectors whose bits they are
abbrev pub taken_in : Netlist → List (List ℕ)
taken_in netlist = map (λ n. n.name) netlist.nets ++ map (λ n. n.base) netlist.nets

-- New wires and new instances have names of their own, what is written are nets that are there, and the two pins of a
-- new instance differ.
pub record IsConsistent (netlist : Netlist) (rewires : List Rewire) (cells : List NewCell)
    (wires : List (List ℕ)) : Type 0 where
  pub wires_new : AreNew (taken_in netlist) wires
  pub cells_new : HaveNewNames netlist cells
  pub linked : All (λ r. WritesOne netlist wires r.net) rewires
  pub from : All (λ c. WritesOne netlist wires c.from) cells
  pub to : All (λ c. WritesOne netlist wires c.to) cells
  pub pins : All (λ c. c.input ≢ c.output) cells
