-- The rows of a name map.
use Rattle.std.specs.Prelude.{ℕ, Bool, List, [], ◌∷◌, if◌then◌else◌, Option, Some, None, option_and_then, is_some}
use Rattle.std.specs.Map.{lookup}
use Rattle.std.specs.Str.{bytes_eq}
use Rattle.vg_scan.specs.Lines.{Line}
use Rattle.vg_scan.specs.Names.{canonical}
use Rattle.vg_scan.specs.References.{is_reference, index_of}
use Rattle.vg_scan.specs.declared.chars.Chars.{Chars}

-- `*digits name`
abbrev pub row_of : Option (List ℕ) → Option (List ℕ) → Option (List ℕ × List ℕ)
row_of (Some index) (Some name) = Some (index, name)
row_of _ _ = None

-- the digits of the index of a line `*digits NAME`, whatever its NAME
abbrev pub row_index : Line → Option (List ℕ)
row_index (index ∷ name ∷ []) = index_of index
row_index _ = None

-- the row of a line `*digits NAME`
-- the name is no index: in `*1 *2` it is the two bytes `*2`
abbrev pub map_line : Chars → Line → Option (List ℕ × List ℕ)
map_line chars (index ∷ name ∷ []) = row_of (index_of index) (canonical chars name)
map_line chars _ = None

-- the name of an index
-- indices are compared as they are written: `*1` and `*01` are two
abbrev pub mapped : List (List ℕ × List ℕ) → List ℕ → Option (List ℕ)
mapped names index = lookup (bytes_eq index) names

-- an index has a name
abbrev pub is_mapped : List (List ℕ × List ℕ) → List ℕ → Bool
is_mapped names index = is_some (mapped names index)

-- the name of a net's head: an index that is mapped, or a name
abbrev pub head_name : Chars → List (List ℕ × List ℕ) → List ℕ → Option (List ℕ)
head_name chars names word =
    if is_reference word then option_and_then (mapped names) (index_of word) else canonical chars word
