-- References to an index of names.
use Rattle.std.specs.Prelude.{ℕ, ◌==◌, ◌&&◌, Bool, false, List, [], ◌∷◌, Option, Some, None, if◌then◌else◌}
use Rattle.vg_num.specs.Number.{are_digits}

-- the text begins with `*`, which nothing escapes
abbrev pub is_reference : List ℕ → Bool
is_reference [] = false
is_reference (b ∷ bs) = b == 42

-- the digits of `*digits`, as they are written: `*01` and `*1` are two indices
abbrev pub index_of : List ℕ → Option (List ℕ)
index_of [] = None
index_of (b ∷ bs) = if (b == 42) && are_digits bs then Some bs else None
