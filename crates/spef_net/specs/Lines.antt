-- The heads of parts, and the text after a line's first words.
use Rattle.std.specs.Prelude.{ℕ, zero, suc, ◌==◌, ◌||◌, ◌-◌, not, Bool, List, [], ◌∷◌, length, take, drop, codes, Option, Some, None, if◌then◌else◌}
use Rattle.std.specs.List.{position_or_len, suffix_len}
use Rattle.std.specs.Str.{bytes_eq}
use Rattle.vg_scan.specs.Lines.{is_blank, is_ink, Line}
use Rattle.spef_net.specs.declared.part.Part.{Part}
use Rattle.spef_net.specs.declared.part.Part.TheVariants.{Conns, Caps, Ress, Inducs}

-- the part whose head is this word
abbrev pub part_named : List ℕ → Option Part
part_named word =
    if bytes_eq word (codes "*CONN") then Some Conns
    else (if bytes_eq word (codes "*CAP") then Some Caps
    else (if bytes_eq word (codes "*RES") then Some Ress
    else (if bytes_eq word (codes "*INDUC") then Some Inducs else None)))

-- the part that a line opens: a head stands alone on its line
abbrev pub head_of : Line → Option Part
head_of (word ∷ []) = part_named word
head_of _ = None

-- a blank or a carriage return
abbrev pub is_space : ℕ → Bool
is_space b = is_blank b || (b == 13)

abbrev pub is_solid : ℕ → Bool
is_solid b = not (is_space b)

-- the text after a text's first word
abbrev pub after_ink : List ℕ → List ℕ
after_ink text = drop (position_or_len is_blank text) text

unfoldable pub after_word : List ℕ → List ℕ
after_word text = after_ink (drop (position_or_len is_ink text) text)

abbrev pub after_words : ℕ → List ℕ → List ℕ
after_words zero text = text
after_words (suc n) text = after_words n (after_word text)

-- a text without the spaces at its end
abbrev pub without_end : List ℕ → List ℕ
without_end text = take (length text - suffix_len is_space text) text

-- and without those at its beginning
unfoldable pub trimmed : List ℕ → List ℕ
trimmed text = without_end (drop (position_or_len is_solid text) text)

-- what stands after a line's first words
abbrev pub note_after : ℕ → List ℕ → List ℕ
note_after n line = trimmed (after_words n line)
