-- Where a node lies, by its note.
use Rattle.std.specs.Prelude.{ℕ, ◌^◌, Bool, List, ◌∷◌, ℤ, pos, codes, Option, Some, None}
use Rattle.std.specs.List.{after_first}
use Rattle.std.specs.Result.{result_ok}
use Rattle.std.specs.Str.{bytes_eq}
use Rattle.vg_num.specs.Number.{signed_scaled}
use Rattle.vg_scan.specs.Lines.{Line, words}

-- the word before the coordinates
abbrev pub is_mark : List ℕ → Bool
is_mark word = bytes_eq word (codes "*C")

-- the number that a word is, in thousandths
unfoldable pub coordinate_of : List ℕ → Option ℤ
coordinate_of word = result_ok (signed_scaled (pos 3) (10 ^ 23) word)

abbrev pub point_of : Option ℤ → Option ℤ → Option (ℤ × ℤ)
point_of (Some x) (Some y) = Some (x, y)
point_of _ _ = None

-- the point that the first two words are
abbrev pub point_at : Line → Option (ℤ × ℤ)
point_at (x ∷ y ∷ _) = point_of (coordinate_of x) (coordinate_of y)
point_at _ = None

-- the two words after the first `*C`
unfoldable pub position_of : List ℕ → Option (ℤ × ℤ)
position_of note = point_at (after_first is_mark (words note))
