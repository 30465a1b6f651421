-- The units of a library, and the decimal places that they give. Source: Liberty User Guide, Synopsys, on `time_unit`
-- and `capacitive_load_unit`.
use Rattle.std.specs.Prelude.{ℕ, ◌+◌, ◌-◌, ◌≤◌, ◌^◌, ◌==◌, List, [], ◌∷◌, codes, pos, if◌then◌else◌, Option, Some, None, option_map, option_and_then, unwrap_or, Result, Ok, Err}
use Rattle.std.specs.Option.{option_map_or}
use Rattle.std.specs.Str.{str_eq_ignore_ascii_case}
use Rattle.vg_num.specs.Number.{scaled}
use Rattle.vg_num.specs.declared.fault.NumFault.{NumFault}
use Rattle.lib_cells.specs.declared.units.Units.{Units}
use Rattle.lib_text.specs.Arguments.{arguments_of}
use Rattle.lib_text.specs.Groups.{Group, complex_attribute, list_of, value_in}

-- the power of ten of a unit of times in picoseconds, where the text is one
unfoldable pub time_power : List ℕ → Option ℕ
time_power text =
    if str_eq_ignore_ascii_case text (codes "1ps") then Some 0
    else (if str_eq_ignore_ascii_case text (codes "10ps") then Some 1
    else (if str_eq_ignore_ascii_case text (codes "100ps") then Some 2
    else (if str_eq_ignore_ascii_case text (codes "1ns") then Some 3 else None)))

-- the power of ten that so many thousandths are, from 1 to 1000
abbrev pub power_of : ℕ → Option ℕ
power_of n =
    if n == 1000 then Some 0
    else (if n == 10000 then Some 1
    else (if n == 100000 then Some 2
    else (if n == 1000000 then Some 3 else None)))

-- the same of a number that was read in thousandths
abbrev pub power_in : Result ℕ NumFault → Option ℕ
power_in (Ok n) = power_of n
power_in (Err _) = None

-- the power of ten that a number is, from 1 to 1000
unfoldable pub number_power : List ℕ → Option ℕ
number_power text = power_in (scaled (pos 3) (10 ^ 15) text)

-- the power of ten of femtofarads or picofarads in femtofarads, where the text is one of these
unfoldable pub farad_power : List ℕ → Option ℕ
farad_power text =
    if str_eq_ignore_ascii_case text (codes "ff") then Some 0
    else (if str_eq_ignore_ascii_case text (codes "pf") then Some 3 else None)

-- the sum of two powers
abbrev pub sum_of : Option ℕ → Option ℕ → Option ℕ
sum_of a b = option_and_then (λ n. option_map (λ m. n + m) b) a

-- the power of ten of a unit of loads in femtofarads, by its arguments: a number and a unit, and no other
abbrev pub load_power_of : List (List ℕ) → Option ℕ
load_power_of (number ∷ unit ∷ []) = sum_of (number_power number) (farad_power unit)
load_power_of _ = None

-- the same by the text of its arguments
abbrev pub load_power : List ℕ → Option ℕ
load_power list = load_power_of (arguments_of list)

-- the decimal places at which times are read, in zeptoseconds: a picosecond is 10^9 of them
abbrev pub time_places : Units → ℕ
time_places units = 9 + units.time

-- those of capacitances, in attofarads: a femtofarad is 10^3 of them
abbrev pub capacitance_places : Units → ℕ
capacitance_places units = 3 + units.load

-- those of resistances, in milliohms: a picosecond by a femtofarad is 10^6 of them
abbrev pub resistance_places : Units → ℕ
resistance_places units = 6 + units.time - units.load

-- the powers are those of some texts
pub record AreUnits (units : Units) : Type 0 where
  pub time : units.time ≤ 3
  pub load : units.load ≤ 6

-- the power of the unit of times that a library gives, by its first `time_unit`; without one the unit is a nanosecond
abbrev pub time_of : Group → Option ℕ
time_of library = option_map_or time_power (value_in library (codes "time_unit")) (Some 3)

-- the power of the unit of loads that a library gives, by its first `capacitive_load_unit`
abbrev pub load_of : Group → Option ℕ
load_of library =
    option_and_then (λ s. load_power (list_of library.text s))
    (complex_attribute library (codes "capacitive_load_unit"))

-- the units of a library: of one that its attribute does not give the power is 0
abbrev pub units_of : Group → Units
units_of library = record { time = unwrap_or (time_of library) 0; load = unwrap_or (load_of library) 0 }
