-- What one byte says of the name that a text spells.
use Rattle.std.specs.Prelude.{◌≡◌, ◌&&◌, not, Bool, ℕ, true, false, List, Option, None}
use Rattle.vg_scan.specs.declared.chars.Chars.{Chars}
use Rattle.vg_scan.specs.declared.spef.Reading.{Reading}
use Rattle.vg_scan.specs.declared.spef.Reading.TheVariants.{Escape, Stands, Quote}
use Rattle.vg_scan.specs.Names.{before, is_backslash, is_quote, spelled}

-- the name that a byte and the rest of a text spell
abbrev pub goes_on : Chars → Reading → List ℕ → Option (List ℕ)
goes_on chars Escape rest = spelled chars true rest
goes_on chars (Stands b) rest = before b (spelled chars false rest)
goes_on chars Quote rest = None

-- whether a byte that may be escaped is one that escapes the next, a bare quote, or neither
abbrev pub IsReadAs : Bool → ℕ → Reading → Type 0
IsReadAs escaped b Escape = (is_backslash b && not escaped ≡ true) × (is_quote b && not escaped ≡ false)
IsReadAs escaped b (Stands _) = (is_backslash b && not escaped ≡ false) × (is_quote b && not escaped ≡ false)
IsReadAs escaped b Quote = is_quote b && not escaped ≡ true
