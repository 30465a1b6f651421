-- The outputs of instances: for the functions between.
use Rattle.std.specs.Prelude.{ℕ, List, [], ◌∷◌, map, slice_index_or, Option, Some, None}
use Rattle.std.specs.List.{filter_map}
use Rattle.lib_linear.specs.Libraries.{related_to}
use Rattle.ver_module.specs.Netlists.{Instance, Pin}
use Rattle.ver_module.specs.declared.link.Link.{Link}
use Rattle.ver_module.specs.declared.link.Link.TheVariants.{Open, One, Many}
use Rattle.vg_design.specs.Designs.{Design, NO_INSTANCE}
use Rattle.vg_sta.specs.Graphs.{section_of}

-- An output that is linked to one net, which has a section, and the pins that it names as related, at least one.
pub record Onward : Type 0 where
  pub section : ℕ
  pub related : List (List ℕ)

-- the section of the one net of a link
abbrev pub section_by : Design → Link → Option ℕ
section_by d Open = None
section_by d (One net) = section_of d net
section_by d (Many nets) = None

abbrev pub onward_to : List (List ℕ) → Option ℕ → Option Onward
onward_to related None = None
onward_to [] (Some section) = None
onward_to (pin ∷ more) (Some section) = Some (record { section = section; related = pin ∷ more })

-- such an output, where a pin of a cell is one
abbrev pub onward_by : Design → List ℕ → Pin → Option Onward
onward_by d cell pin = onward_to (related_to d.library cell pin.name) (section_by d pin.link)

-- those of an instance
abbrev pub onward_of : Design → Instance → List Onward
onward_of d instance = filter_map (onward_by d instance.cell) instance.pins

-- those of the instance of a number
abbrev pub onward_at : Design → ℕ → List Onward
onward_at d at = onward_of d (slice_index_or d.netlist.instances at NO_INSTANCE)

abbrev pub outputs_in : Design → List (List Onward)
outputs_in d = map (onward_of d) d.netlist.instances
