-- What is true of the instances of every changed netlist.
use Rattle.std.specs.Prelude.{◌≡◌, ℕ, List, [], ◌++◌, map}
use Rattle.ver_module.specs.Netlists.{Netlist}
use Rattle.ver_file.specs.Flaws.{instance_flaws}
use Rattle.ver_file.specs.Netlists.{instances_of}
use Rattle.ver_patch.specs.NewCells.{NewCell}
use Rattle.ver_patch.specs.Rewires.{Rewire}
use Rattle.ver_patch_text_laws.specs.Laws.{IsChanged}
use Rattle.ver_patch_laws.specs.NewNames.{HaveNewNames}
use Rattle.ver_patch_laws.specs.Shapes.{new_shape, shape_of}

-- the instances of the new text are the old ones, in order, each with its name, its cell and its pins, and then the new
-- ones
abbrev pub InstancesStay : Type 0
InstancesStay =
    (text : List ℕ) (netlist : Netlist) (rewires : List Rewire) (cells : List NewCell)
    (wires : List (List ℕ)) (new : List ℕ)
    → IsChanged text netlist rewires cells wires new
    → map shape_of (instances_of new) ≡ map shape_of netlist.instances ++ map new_shape cells

-- where the new instances have names of their own, no instance of the new text is named twice
abbrev pub InstancesDiffer : Type 0
InstancesDiffer =
    (text : List ℕ) (netlist : Netlist) (rewires : List Rewire) (cells : List NewCell)
    (wires : List (List ℕ)) (new : List ℕ)
    → IsChanged text netlist rewires cells wires new → HaveNewNames netlist cells → instance_flaws new ≡ []
