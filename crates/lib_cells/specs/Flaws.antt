-- What is wrong with the statements of a library, pass by pass, and which of it comes first.
use Rattle.std.specs.Prelude.{◌≡◌, ◌⊎◌, ℕ, ◌==◌, ℤ, pos, Bool, true, false, ◌&&◌, ◌||◌, nat_lt, List, [], ◌∷◌, ◌++◌, codes, Option, Some, None, is_none, is_some, Result, Ok, Err}
use Rattle.std.specs.Ordering.{int_eq}
use Rattle.std.specs.List.{All, Contains, flat_map}
use Rattle.std.specs.Str.{bytes_eq}
use Rattle.name_tables.specs.Distinct.{number_of as place_of, with_name}
use Rattle.vg_num.specs.declared.fault.NumFault.{NumFault}
use Rattle.vg_scan.specs.declared.fault.LineFault.{LineFault}
use Rattle.lib_text.specs.declared.statement.Statement.{Statement}
use Rattle.lib_text.specs.Groups.{Group, attribute, complex_attribute, list_of, value_of}
use Rattle.lib_text.specs.Syntax.{line_at}
use Rattle.lib_cells.specs.declared.fault.LibKind.{LibKind}
use Rattle.lib_cells.specs.declared.fault.LibKind.TheVariants.{Syntax, NotLinear, Slope, Unit, Number, CellTwice, TooManyRepeaters, Memory}
use Rattle.lib_cells.specs.declared.flaw.Flaw.{Flaw}
use Rattle.lib_cells.specs.declared.units.Units.{Units}
use Rattle.lib_cells.specs.Cells.{cell_groups, name_of, pin_groups, timings}
use Rattle.lib_cells.specs.Units.{capacitance_places, load_power, resistance_places, time_places, time_power}
use Rattle.lib_cells.specs.Values.{number_of, signed_of}

-- a statement has this flaw
abbrev pub flaw : LibKind → Statement → Flaw
flaw kind s = record { place = s.name; kind = kind }

-- a statement has this flaw where a test of it fails
abbrev pub unless : Bool → LibKind → Statement → List Flaw
unless true kind s = []
unless false kind s = flaw kind s ∷ []

-- the flaws of an attribute that is given
abbrev pub flaws_in : (Statement → List Flaw) → Option Statement → List Flaw
flaws_in flaws_of None = []
flaws_in flaws_of (Some s) = flaws_of s

-- NotLinear: the model of delays is given, and is not the linear one
abbrev pub model_flaws : Group → List Flaw
model_flaws library =
    flaws_in (λ s. unless (bytes_eq (value_of library.text s) (codes "generic_cmos")) NotLinear s)
    (attribute library (codes "delay_model"))

-- Unit: the unit of times is given, and is none
abbrev pub time_flaws : Group → List Flaw
time_flaws library =
    flaws_in (λ s. unless (is_some (time_power (value_of library.text s))) Unit s)
    (attribute library (codes "time_unit"))

-- Unit: the unit of loads is none; where it is absent, at the library's own line
abbrev pub load_flaws_of : Group → Option Statement → List Flaw
load_flaws_of library None = flaw Unit library.head ∷ []
load_flaws_of library (Some s) = unless (is_some (load_power (list_of library.text s))) Unit s

abbrev pub load_flaws : Group → List Flaw
load_flaws library = load_flaws_of library (complex_attribute library (codes "capacitive_load_unit"))

-- the flaws of a library's model and units
abbrev pub header_flaws : Group → List Flaw
header_flaws library = model_flaws library ++ (time_flaws library ++ load_flaws library)

-- Number: a value is no number
abbrev pub unread : {N : Type 0} → Statement → Result N NumFault → List Flaw
unread s (Ok n) = []
unread s (Err fault) = flaw (Number fault) s ∷ []

-- the flaws of a number that is used
abbrev pub number_flaws : Group → List ℕ → ℕ → List Flaw
number_flaws group name places = flaws_in (λ s. unread s (number_of group.text places s)) (attribute group name)

-- Slope: a slope is not 0
abbrev pub slope_is : Statement → Result ℤ NumFault → List Flaw
slope_is s (Ok z) = unless (int_eq z (pos 0)) Slope s
slope_is s (Err fault) = flaw (Number fault) s ∷ []

-- the flaws of a slope
abbrev pub slope_flaws : Group → List ℕ → List Flaw
slope_flaws timing name = flaws_in (λ s. slope_is s (signed_of timing.text 9 s)) (attribute timing name)

-- the flaws of a timing group
abbrev pub timing_flaws : Units → Group → List Flaw
timing_flaws units timing =
    number_flaws timing (codes "intrinsic_rise") (time_places units)
    ++ (number_flaws timing (codes "intrinsic_fall") (time_places units)
    ++ (number_flaws timing (codes "rise_resistance") (resistance_places units)
    ++ (number_flaws timing (codes "fall_resistance") (resistance_places units)
    ++ (slope_flaws timing (codes "slope_rise") ++ slope_flaws timing (codes "slope_fall")))))

-- those of a pin
abbrev pub pin_flaws : Units → Group → List Flaw
pin_flaws units pin =
    number_flaws pin (codes "capacitance") (capacitance_places units)
    ++ (number_flaws pin (codes "max_capacitance") (capacitance_places units)
    ++ flat_map (timing_flaws units) (timings pin))

-- those of a cell
abbrev pub cell_flaws : Units → Group → List Flaw
cell_flaws units cell = number_flaws cell (codes "area") 3 ++ flat_map (pin_flaws units) (pin_groups cell)

-- CellTwice: the name of a cell is one of these
abbrev pub twice_flaw : List (List ℕ) → Group → List Flaw
twice_flaw names cell = unless (is_none (place_of names (name_of cell))) CellTwice cell.head

-- the same of the cells of a list, where these are the names before them
unfoldable pub twice_flaws : List (List ℕ) → List Group → List Flaw
twice_flaws names [] = []
twice_flaws names (cell ∷ cells) = twice_flaw names cell ++ twice_flaws (with_name names (name_of cell)) cells

-- the flaws of a library's cells
abbrev pub value_flaws : Units → Group → List Flaw
value_flaws units library = twice_flaws [] (cell_groups library) ++ flat_map (cell_flaws units) (cell_groups library)

-- the order of kinds on one line
abbrev pub rank : LibKind → ℕ
rank Syntax = 0
rank NotLinear = 1
rank Unit = 2
rank CellTwice = 3
rank (Number fault) = 4
rank Slope = 5
rank TooManyRepeaters = 6
rank Memory = 7

-- two numbers, and then another test where they are equal
abbrev pub before_or : ℕ → ℕ → Bool → Bool
before_or a b test = nat_lt a b || ((a == b) && test)

-- a flaw comes before another one on its line: by its kind; of one kind where it stands earlier
abbrev pub is_before_on_line : Flaw → Flaw → Bool
is_before_on_line a b = before_or (rank a.kind) (rank b.kind) (nat_lt a.place b.place)

-- a flaw comes before another one: on an earlier line, or on its line
abbrev pub is_before : List ℕ → Flaw → Flaw → Bool
is_before bytes a b = before_or (line_at bytes a.place) (line_at bytes b.place) (is_before_on_line a b)

-- the first of some flaws, told by its line
pub record IsFirst (bytes : List ℕ) (flaws : List Flaw) (fault : LineFault LibKind) : Type 0 where
  pub found : Flaw
  pub among : Contains flaws found
  pub least : All (λ other. is_before bytes other found ≡ false) flaws
  pub kind : fault.kind ≡ found.kind
  pub line : fault.line ≡ line_at bytes found.place

-- out of memory, which is told at line 1
abbrev pub IsOutOfMemory : LineFault LibKind → Type 0
IsOutOfMemory fault = (fault.kind ≡ Memory) × (fault.line ≡ 1)

-- the first of some flaws, or out of memory
abbrev pub IsFirstOrMemory : List ℕ → List Flaw → LineFault LibKind → Type 0
IsFirstOrMemory bytes flaws fault = IsOutOfMemory fault ⊎ IsFirst bytes flaws fault
