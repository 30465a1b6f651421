-- Texts that stand one after another.
use Rattle.std.specs.Prelude.{◌≡◌, ℕ, zero, suc, ◌≤◌, List, [], ◌∷◌, slice_index}
use Rattle.vg_scan.specs.Lines.{part}

-- the texts of some bytes from a place on, by where each of them ends
unfoldable pub texts_of : List ℕ → ℕ → List ℕ → List (List ℕ)
texts_of bytes from [] = []
texts_of bytes from (end ∷ ends) = part bytes from end ∷ texts_of bytes end ends

-- the ends rise from a place on, and the last one is the end of all
unfoldable pub AreEnds : ℕ → List ℕ → ℕ → Type 0
AreEnds from [] whole = from ≡ whole
AreEnds from (end ∷ ends) whole = (from ≤ end) × AreEnds end ends whole

-- where the text of this number begins
abbrev pub start_of : ℕ → List ℕ → ℕ → ℕ
start_of from ends zero = from
start_of from ends (suc at) = slice_index ends at
