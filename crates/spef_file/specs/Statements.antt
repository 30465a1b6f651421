-- The rows and the nets that the lines of a file give.
use Rattle.std.specs.Prelude.{ℕ, ◌+◌, List, [], ◌∷◌, ◌++◌, length, if◌then◌else◌, codes, Option, Some, None, unwrap_or}
use Rattle.std.specs.Str.{bytes_eq}
use Rattle.vg_scan.specs.Lines.{Line}
use Rattle.spef_file.specs.Words.{first_word, second_word}
use Rattle.spef_file.specs.Rows.{map_line, head_name}
use Rattle.spef_file.specs.Nets.{NetHead}
use Rattle.spef_file.specs.HeaderLines.{chars_of}
use Rattle.spef_file.specs.Regions.{is_row, is_net_head}

-- one item or none
abbrev pub listed : {A : Type 0} → Option A → List A
listed (Some item) = item ∷ []
listed None = []

-- what lines add after some lines, each given the lines before it
abbrev pub gathered : {A : Type 0} → (List Line → Line → Option A) → List Line → List Line → List A
gathered add before [] = []
gathered add before (line ∷ later) = listed (add before line) ++ gathered add (before ++ line ∷ []) later

-- the row of the name map that a line gives after these
abbrev pub row_in : List Line → Line → Option (List ℕ × List ℕ)
row_in before line = if is_row before line then map_line (chars_of before) line else None

-- the rows of the name map: the digits of each index, and its canonical name
unfoldable pub rows_of : List Line → List (List ℕ × List ℕ)
rows_of lines = gathered row_in [] lines

-- the canonical name of a net's head after these lines
-- an index in a head needs its row before it; in the other lines of a net its row may stand anywhere
abbrev pub name_in : List Line → Line → Option (List ℕ)
name_in before line = head_name (chars_of before) (rows_of before) (second_word line)

-- the net of which a line is the head after these
abbrev pub net_in : List Line → Line → Option NetHead
net_in before line =
    if is_net_head before line then
    Some (record { name = unwrap_or (name_in before line) []; reduced = bytes_eq (first_word line) (codes "*R_NET"); line = length before + 1 })
    else None

-- the heads of the nets
unfoldable pub nets_of : List Line → List NetHead
nets_of lines = gathered net_in [] lines
