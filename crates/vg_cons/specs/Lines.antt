-- The lines of a constraints text.
use Rattle.std.specs.Prelude.{ℕ, ◌==◌, map, Bool, true, false, List, [], ◌∷◌, codes, Option, Some, None, if◌then◌else◌}
use Rattle.std.specs.List.{before_first}
use Rattle.std.specs.Str.{bytes_eq}
use Rattle.std.specs.Str.Lines.{lines}
use Rattle.vg_scan.specs.Lines.{words}
use Rattle.vg_cons.specs.declared.format.Format.{Format}
use Rattle.vg_cons.specs.declared.format.Format.TheVariants.{First, Second}

abbrev pub is_hash : ℕ → Bool
is_hash b = b == 35

-- a line, as its words before its first hash
abbrev pub Line : Type 0
Line = List (List ℕ)

-- the lines of a text, each as its words
-- a hash begins a comment anywhere, also in a word or after a backslash
unfoldable pub lines_of : List ℕ → List Line
lines_of text = map (λ line. words (before_first is_hash line)) (lines text)

abbrev pub has_words : Line → Bool
has_words [] = false
has_words (_ ∷ _) = true

-- the format of a version
abbrev pub format_of : List ℕ → Option Format
format_of version =
    if bytes_eq version (codes "1") then Some First else (if bytes_eq version (codes "2") then Some Second else None)

-- the format that a heading names: `vgcons 1` or `vgcons 2`, by its words, so blanks between them are free
abbrev pub heading_of : Line → Option Format
heading_of (name ∷ version ∷ []) = if bytes_eq name (codes "vgcons") then format_of version else None
heading_of _ = None
