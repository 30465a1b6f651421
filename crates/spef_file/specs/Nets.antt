-- The nets of a file: their heads, and their ends.
use Rattle.std.specs.Prelude.{ℕ, ◌+◌, Bool, List, [], ◌∷◌, map, if◌then◌else◌, codes, Option, Some, None, option_map}
use Rattle.std.specs.List.{list_any}
use Rattle.std.specs.Str.{bytes_eq}
use Rattle.vg_scan.specs.Lines.{Line}
use Rattle.spef_file.specs.Words.{first_word}
use Rattle.spef_file.specs.Keywords.{is_net}

-- the head of a net: its canonical name, whether it is reduced, and the number of its line
pub record NetHead : Type 0 where
  pub name : List ℕ
  pub reduced : Bool
  pub line : ℕ

-- the end of a net, by its first word alone: `*END foo` is one
abbrev pub is_end : Line → Bool
is_end line = bytes_eq (first_word line) (codes "*END")

-- the head of a net
abbrev pub is_head : Line → Bool
is_head line = is_net (first_word line)

-- how many lines stand before the end of a net, which comes before the next head
abbrev pub end_at : List Line → Option ℕ
end_at [] = None
end_at (line ∷ later) =
    if is_end line then Some 0 else (if is_head line then None else option_map (λ n. n + 1) (end_at later))

-- a net of these has this name
abbrev pub is_taken : List NetHead → List ℕ → Bool
is_taken nets name = list_any (bytes_eq name) (map (λ net. net.name) nets)
