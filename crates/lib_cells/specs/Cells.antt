-- The cells of a library and their pins. Source: Liberty User Guide, Synopsys: the groups `cell`, `pin` and `timing`,
-- and the attributes of the linear delay model.
use Rattle.std.specs.Prelude.{ℕ, max, Bool, false, true, List, [], ◌∷◌, map, codes, fold, Option, Some, None, option_map, unwrap_or, if◌then◌else◌}
use Rattle.std.specs.List.{cons_option, flat_map, zip}
use Rattle.std.specs.Str.{bytes_eq}
use Rattle.name_tables.specs.Distinct.{with_name}
use Rattle.vg_scan.specs.Lines.{words}
use Rattle.lib_text.specs.Groups.{Group, groups_in, names_of, value_in}
use Rattle.lib_cells.specs.declared.cell.CellBody.{CellBody}
use Rattle.lib_cells.specs.declared.pin.PinDir.{PinDir}
use Rattle.lib_cells.specs.declared.pin.PinDir.TheVariants.{Input, Output, Inout, Internal, Unstated}
use Rattle.lib_cells.specs.CellInfos.{CellInfo}
use Rattle.lib_cells.specs.PinInfos.{PinInfo}
use Rattle.lib_cells.specs.declared.units.Units.{Units}
use Rattle.lib_cells.specs.Units.{capacitance_places, resistance_places, time_places}
use Rattle.lib_cells.specs.Values.{given}

-- the direction of this name
abbrev pub direction_named : List ℕ → PinDir
direction_named text =
    if bytes_eq text (codes "input") then Input
    else (if bytes_eq text (codes "output") then Output
    else (if bytes_eq text (codes "inout") then Inout
    else (if bytes_eq text (codes "internal") then Internal else Unstated)))

-- the direction of a pin
abbrev pub direction_of : Group → PinDir
direction_of pin = unwrap_or (option_map direction_named (value_in pin (codes "direction"))) Unstated

-- a pin is an output
abbrev pub is_output : PinDir → Bool
is_output Output = true
is_output _ = false

-- a pin is an input
abbrev pub is_input : PinDir → Bool
is_input Input = true
is_input _ = false

-- the timing groups of a pin
abbrev pub timings : Group → List Group
timings pin = groups_in pin (codes "timing")

-- the intrinsic times of a timing group (zs)
abbrev pub intrinsics : Units → Group → List ℕ
intrinsics units timing =
    cons_option (given timing (codes "intrinsic_rise") (time_places units))
    (cons_option (given timing (codes "intrinsic_fall") (time_places units)) [])

-- its resistances (mΩ)
abbrev pub resistances : Units → Group → List ℕ
resistances units timing =
    cons_option (given timing (codes "rise_resistance") (resistance_places units))
    (cons_option (given timing (codes "fall_resistance") (resistance_places units)) [])

-- the greatest of some numbers
unfoldable pub greatest : List ℕ → Option ℕ
greatest [] = None
greatest (n ∷ ns) = Some (max n (unwrap_or (greatest ns) 0))

-- two numbers, where both are there
abbrev pub both : Option ℕ → Option ℕ → Option (ℕ × ℕ)
both (Some k) (Some r) = Some (k, r)
both _ _ = None

-- the drive of a pin: of an output the greatest intrinsic time and the greatest resistance of its timing groups
abbrev pub drive_of : Units → Group → Option (ℕ × ℕ)
drive_of units pin =
    if is_output (direction_of pin)
    then both (greatest (flat_map (intrinsics units) (timings pin)))
    (greatest (flat_map (resistances units) (timings pin)))
    else None

-- the names that a value has, with blanks between
abbrev pub names_in : Option (List ℕ) → List (List ℕ)
names_in None = []
names_in (Some value) = words value

-- the pins that a timing group names as related
abbrev pub related_in : Group → List (List ℕ)
related_in timing = names_in (value_in timing (codes "related_pin"))

-- some names, each once, in the order in which they come first
abbrev pub distinct : List (List ℕ) → List (List ℕ)
distinct names = fold with_name [] names

-- the pins that a pin's timing groups name as related, where it is an output
abbrev pub related_of : Group → List (List ℕ)
related_of pin = if is_output (direction_of pin) then distinct (flat_map related_in (timings pin)) else []

-- a pin of this name in a pin group: several names share one group
abbrev pub pin_info : Units → Group → List ℕ → PinInfo
pin_info units pin name = record {
  name = name;
  direction = direction_of pin;
  cap = given pin (codes "capacitance") (capacitance_places units);
  drive = drive_of units pin;
  max = given pin (codes "max_capacitance") (capacitance_places units);
  related = related_of pin;
}

-- the pin groups of a cell
abbrev pub pin_groups : Group → List Group
pin_groups cell = groups_in cell (codes "pin")

-- the pins of a cell
abbrev pub pins_of : Units → Group → List PinInfo
pins_of units cell = flat_map (λ pin. map (pin_info units pin) (names_of pin)) (pin_groups cell)

-- the first of some names
abbrev pub first_name : List (List ℕ) → List ℕ
first_name [] = []
first_name (name ∷ names) = name

-- the name of a cell: its group has one argument
abbrev pub name_of : Group → List ℕ
name_of cell = first_name (names_of cell)

-- the area of a cell (thousandths)
abbrev pub area_of : Group → ℕ
area_of cell = unwrap_or (given cell (codes "area") 3) 0

-- a cell
abbrev pub cell_info : Units → Group → CellInfo
cell_info units cell = record { name = name_of cell; pins = pins_of units cell; area = area_of cell }

-- what stands in a cell
abbrev pub cell_body : Units → Group → CellBody
cell_body units cell = record { pins = pins_of units cell; area = area_of cell }

-- a cell of a name
abbrev pub cell_named : List ℕ × CellBody → CellInfo
cell_named (name, body) = record { name = name; pins = body.pins; area = body.area }

-- the cells of these names
abbrev pub cells_named : List (List ℕ) → List CellBody → List CellInfo
cells_named names bodies = map cell_named (zip names bodies)

-- the cell groups of a library
abbrev pub cell_groups : Group → List Group
cell_groups library = groups_in library (codes "cell")

-- the cells of a library
abbrev pub cells_of : Units → Group → List CellInfo
cells_of units library = map (cell_info units) (cell_groups library)

-- what stands in each of them
abbrev pub bodies_of : Units → Group → List CellBody
bodies_of units library = map (cell_body units) (cell_groups library)
