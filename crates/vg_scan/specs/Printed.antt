-- The text that a name is printed as.
use Rattle.std.specs.Prelude.{ℕ, ◌<◌, ◌==◌, ◌||◌, ◌&&◌, nat_le, not, Bool, List, [], ◌∷◌, length, if◌then◌else◌}
use Rattle.std.specs.List.{flat_map, AllPass}
use Rattle.vg_num.specs.Number.{is_digit}
use Rattle.vg_scan.specs.declared.chars.Chars.{Chars}
use Rattle.vg_scan.specs.Lines.{is_blank, is_newline}

-- a letter, a digit or `_`
abbrev pub is_own : ℕ → Bool
is_own b = (nat_le 65 b && nat_le b 90) || (nat_le 97 b && nat_le b 122) || is_digit b || (b == 95)

-- such a byte as it is, `[` and `]` as the file's bus delimiters, and every other byte with a backslash before it
abbrev pub printed_byte : Chars → ℕ → List ℕ
printed_byte chars b =
    if is_own b then b ∷ []
    else (if b == 91 then chars.bus_left ∷ []
    else (if b == 93 then chars.bus_right ∷ [] else 92 ∷ b ∷ []))

abbrev pub printed : Chars → List ℕ → List ℕ
printed chars name = flat_map (printed_byte chars) name

-- a byte that may stand in a word
abbrev pub is_solid : ℕ → Bool
is_solid b = not (is_blank b || is_newline b)

-- a name that can be a word: it is not empty, and has no blank and no newline
pub record IsPrintable (name : List ℕ) : Type 0 where
  pub some : 0 < length name
  pub solid : AllPass is_solid name
