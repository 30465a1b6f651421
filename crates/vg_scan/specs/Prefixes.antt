-- The beginnings that names of new cells and nets may have: words of every format that is written.
use Rattle.std.specs.Prelude.{ℕ, nat_le, ◌==◌, ◌&&◌, ◌||◌, Bool, false, List, [], ◌∷◌, length}
use Rattle.std.specs.List.{list_all}

-- a letter or `_`
abbrev pub is_letter : ℕ → Bool
is_letter b = (nat_le 65 b && nat_le b 90) || ((nat_le 97 b && nat_le b 122) || (b == 95))

abbrev pub is_name_byte : ℕ → Bool
is_name_byte b = is_letter b || (nat_le 48 b && nat_le b 57)

-- a letter or `_`, followed by at most 31 letters, digits or `_`
abbrev pub is_prefix : List ℕ → Bool
is_prefix [] = false
is_prefix (b ∷ bytes) = nat_le (length bytes) 31 && (is_letter b && list_all is_name_byte bytes)
