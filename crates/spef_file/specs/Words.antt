-- The words of a line.
use Rattle.std.specs.Prelude.{ℕ, ◌==◌, Bool, true, false, List, [], ◌∷◌}
use Rattle.vg_scan.specs.Lines.{Line}

abbrev pub has_words : Line → Bool
has_words [] = false
has_words (_ ∷ _) = true

abbrev pub first_word : Line → List ℕ
first_word [] = []
first_word (word ∷ _) = word

abbrev pub second_word : Line → List ℕ
second_word (_ ∷ word ∷ _) = word
second_word _ = []

abbrev pub starts_quoted : List ℕ → Bool
starts_quoted [] = false
starts_quoted (b ∷ _) = b == 34

-- the line goes on with a text
abbrev pub is_quoted : Line → Bool
is_quoted line = starts_quoted (first_word line)
