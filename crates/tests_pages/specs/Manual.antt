-- The options that a manual page lists, and those of the program.
use Rattle.std.specs.Prelude.{◌≡◌, ℕ, ◌==◌, ◌&&◌, Bool, false, List, [], ◌∷◌, ◌++◌, map, codes, if◌then◌else◌}
use Rattle.std.specs.List.{flat_map, slice_index_or}
use Rattle.std.specs.Str.{bytes_eq}
use Rattle.vg_scan.specs.Lines.{Line, lines_of}
use Rattle.vg_words.specs.Options.{name_of, options}
use Rattle.vg_words.specs.declared.option.Opt.{Opt}

-- the first word of a line and the second, each empty where there is none
abbrev pub request : Line → List ℕ
request line = slice_index_or line 0 []

abbrev pub argument : Line → List ℕ
argument line = slice_index_or line 1 []

-- the line `.SH OPTIONS` opens the section of options, and any other line `.SH` closes it
abbrev pub is_open_after : Line → Bool → Bool
is_open_after line is_open =
    if bytes_eq (request line) (codes ".SH") then bytes_eq (argument line) (codes "OPTIONS") else is_open

-- in this section a line `.BI NAME VALUE` lists an option
abbrev pub listed_by : Line → Bool → List (List ℕ)
listed_by line is_open = if is_open && bytes_eq (request line) (codes ".BI") then argument line ∷ [] else []

-- what lines list, where those before them left the section open, or did not
unfoldable pub listed_from : Bool → List Line → List (List ℕ)
listed_from is_open [] = []
listed_from is_open (line ∷ lines) = listed_by line is_open ++ listed_from (is_open_after line is_open) lines

-- the options that a page lists
abbrev pub listed : List ℕ → List (List ℕ)
listed page = listed_from false (lines_of page)

-- a page writes a hyphen as `\-`
abbrev pub escaped : ℕ → List ℕ
escaped b = if b == 45 then codes "\\-" else b ∷ []

-- the name of an option, as a page writes it
abbrev pub written_name : Opt → List ℕ
written_name option = flat_map escaped (name_of option)

-- the page lists the options of the program, in their order
abbrev pub ListsOptions : List ℕ → Type 0
ListsOptions page = listed page ≡ map written_name options
