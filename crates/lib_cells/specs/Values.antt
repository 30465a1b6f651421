-- What attributes of a library give. Source: Liberty User Guide, Synopsys, on simple attributes.
use Rattle.std.specs.Prelude.{ℕ, ◌^◌, ℤ, pos, Bool, false, List, Option, Some, None, Result}
use Rattle.std.specs.Result.{result_ok}
use Rattle.std.specs.Option.{option_and_then}
use Rattle.std.specs.Str.{bytes_eq}
use Rattle.vg_num.specs.Number.{scaled, signed_scaled}
use Rattle.vg_num.specs.declared.fault.NumFault.{NumFault}
use Rattle.lib_text.specs.declared.statement.Statement.{Statement}
use Rattle.lib_text.specs.Groups.{Group, attribute, value_in, value_of}

-- the value of an attribute as a number without a sign, at these decimal places, or why it is none
abbrev pub number_of : List ℕ → ℕ → Statement → Result ℕ NumFault
number_of text places s = scaled (pos places) (10 ^ 15) (value_of text s)

-- the same as a number with a sign
abbrev pub signed_of : List ℕ → ℕ → Statement → Result ℤ NumFault
signed_of text places s = signed_scaled (pos places) (10 ^ 23) (value_of text s)

-- the number that an attribute of a group gives, where it has the attribute and its value is a number
abbrev pub given : Group → List ℕ → ℕ → Option ℕ
given group name places = option_and_then (λ s. result_ok (number_of group.text places s)) (attribute group name)

-- a value is this text
abbrev pub is_text : List ℕ → Option (List ℕ) → Bool
is_text text None = false
is_text text (Some value) = bytes_eq value text

-- an attribute of a group has this value
abbrev pub says : Group → List ℕ → List ℕ → Bool
says group name value = is_text value (value_in group name)
