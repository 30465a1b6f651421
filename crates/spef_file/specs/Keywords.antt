-- What the first word of a line opens.
use Rattle.std.specs.Prelude.{ℕ, Bool, List, ◌||◌, if◌then◌else◌, codes}
use Rattle.std.specs.Str.{bytes_eq}
use Rattle.spef_file.specs.declared.keyword.Keyword.{Keyword}
use Rattle.spef_file.specs.declared.keyword.Keyword.TheVariants.{Map, Passed, Net, Foreign, Nothing}

abbrev pub is_passed : List ℕ → Bool
is_passed word =
    bytes_eq word (codes "*POWER_NETS") || bytes_eq word (codes "*GROUND_NETS") || bytes_eq word (codes "*PORTS")
    || bytes_eq word (codes "*PHYSICAL_PORTS")

abbrev pub is_net : List ℕ → Bool
is_net word = bytes_eq word (codes "*D_NET") || bytes_eq word (codes "*R_NET")

abbrev pub is_foreign : List ℕ → Bool
is_foreign word =
    bytes_eq word (codes "*DEFINE") || bytes_eq word (codes "*PDEFINE") || bytes_eq word (codes "*D_PNET")
    || bytes_eq word (codes "*R_PNET")

-- what the first word of a line opens, whatever follows it: `*NAME_MAP foo` opens the name map
unfoldable pub keyword_of : List ℕ → Keyword
keyword_of word =
    if bytes_eq word (codes "*NAME_MAP") then Map
    else (if is_passed word then Passed
    else (if is_net word then Net
    else (if is_foreign word then Foreign else Nothing)))
