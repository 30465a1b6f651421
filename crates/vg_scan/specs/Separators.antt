-- The bytes that a file may take to part the names of a path, and to enclose a bit of a bus.
use Rattle.std.specs.Prelude.{ℕ, ◌==◌, ◌||◌, ◌&&◌, Bool}

-- `/`, `.`, `:` or `|`
abbrev pub is_separator : ℕ → Bool
is_separator b = (b == 47) || (b == 46) || (b == 58) || (b == 124)

-- `[` and `]`, `{` and `}`, `(` and `)`, or `<` and `>`
abbrev pub is_bus_pair : ℕ → ℕ → Bool
is_bus_pair left right =
    ((left == 91) && (right == 93)) || ((left == 123) && (right == 125)) || ((left == 40) && (right == 41))
    || ((left == 60) && (right == 62))
