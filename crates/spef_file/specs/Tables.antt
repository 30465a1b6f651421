-- The nets of a file, as its index has them.
use Rattle.std.specs.Prelude.{ℕ, Bool, List, map}
use Rattle.std.specs.List.{list_any}
use Rattle.std.specs.Str.{bytes_eq}
use Rattle.spef_file.specs.declared.section.Section.{Section}

-- a net: its name, and where it stands
abbrev pub NetRow : Type 0
NetRow = List ℕ × Section

-- the names of the nets, in their order
abbrev pub names_of : List NetRow → List (List ℕ)
names_of nets = map (λ (net : NetRow). net.0) nets

-- a net has this name
abbrev pub is_section : List NetRow → List ℕ → Bool
is_section nets name = list_any (bytes_eq name) (names_of nets)
