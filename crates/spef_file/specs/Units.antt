-- The units of a header.
use Rattle.std.specs.Prelude.{ℕ, ◌+◌, ◌^◌, ◌==◌, List, [], ◌∷◌, pos, if◌then◌else◌, Option, Some, None, option_and_then, Result, Ok, Err}
use Rattle.std.specs.Str.{str_eq_ignore_ascii_case}
use Rattle.vg_num.specs.Number.{scaled}
use Rattle.vg_num.specs.declared.fault.NumFault.{NumFault}
use Rattle.vg_scan.specs.Lines.{Line}

-- the power of ten that a number is, from 1 to 10^6
abbrev pub power_of : ℕ → Option ℕ
power_of n =
    if n == 1 then Some 0
    else (if n == 10 then Some 1
    else (if n == 100 then Some 2
    else (if n == 1000 then Some 3
    else (if n == 10000 then Some 4
    else (if n == 100000 then Some 5
    else (if n == 1000000 then Some 6 else None))))))

abbrev pub power_in : Result ℕ NumFault → Option ℕ
power_in (Ok n) = power_of n
power_in (Err _) = None

-- the power of ten that a word is in thousandths
unfoldable pub unit_power : List ℕ → Option ℕ
unit_power word = power_in (scaled (pos 3) (10 ^ 15) word)

-- the decimal places of a value of this power of ten, counted in thousandths of the small unit; the large unit is 1000
-- of it
abbrev pub places_of : List ℕ → List ℕ → List ℕ → ℕ → Option ℕ
places_of small large unit power =
    if str_eq_ignore_ascii_case unit small then Some power
    else (if str_eq_ignore_ascii_case unit large then Some (power + 3) else None)

-- the decimal places that a line `WORD NUMBER UNIT` gives
-- a line with a further word gives none: it is a fault of the unit
abbrev pub unit_places : List ℕ → List ℕ → Line → Option ℕ
unit_places small large (_ ∷ number ∷ unit ∷ []) = option_and_then (places_of small large unit) (unit_power number)
unit_places small large _ = None
