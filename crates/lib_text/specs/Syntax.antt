-- Which texts are libraries, and where a text is none.
use Rattle.std.specs.Prelude.{◌≡◌, ℕ, zero, suc, ◌-◌, min, List, [], ◌∷◌, length}
use Rattle.vg_scan.specs.Lines.{line_number}
use Rattle.grammar_laws.specs.Grammar.{Derives, IsFault}
use Rattle.lib_text.specs.declared.token.Token.{Token}
use Rattle.lib_text.specs.Grammar.{rules, library}
use Rattle.lib_text.specs.Kinds.{kinds_of}
use Rattle.lib_text.specs.Tokens.{tokens_of}

-- the tokens of a text are a library
abbrev pub IsLibrary : List ℕ → Type 0
IsLibrary text = Derives rules library (kinds_of text)

-- where a token begins, by its number, or this end where there are not so many
abbrev pub place_of : List Token → ℕ → ℕ → ℕ
place_of [] end n = end
place_of (t ∷ ts) end zero = t.from
place_of (t ∷ ts) end (suc n) = place_of ts end n

-- the tokens of a text are no library, and the first that the grammar does not allow begins at this place, or the text
-- ends there
pub record IsSyntaxFault (text : List ℕ) (at : ℕ) : Type 0 where
  pub token : ℕ
  pub fault : IsFault rules library (kinds_of text) token
  pub place : at ≡ place_of (tokens_of text) (length text) token

-- the number of the line in which a place stands, or of the last line where the text ends there
abbrev pub line_at : List ℕ → ℕ → ℕ
line_at bytes at = line_number bytes (min at (length bytes - 1))
