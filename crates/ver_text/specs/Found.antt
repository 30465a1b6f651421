-- One token after another, as the code reads them: for the functions between.
use Rattle.std.specs.Prelude.{◌≡◌, ℕ, ◌+◌, ◌≤◌, ◌==◌, ◌&&◌, List, ◌∷◌, length, drop, if◌then◌else◌}
use Rattle.std.specs.Int.{w64, trailing_zeros}
use Rattle.ver_text.specs.declared.piece.Piece.{Piece}
use Rattle.ver_text.specs.declared.piece.Stretch.{Stretch}
use Rattle.ver_text.specs.declared.token.Token.{Token}
use Rattle.ver_text.specs.declared.token.TokenKind.TheVariants.{Stray}
use Rattle.ver_text.specs.Tokens.{begins, token, passed, slash_before, unsized_before, tokens_from}

-- a piece whose first byte stands before this place
abbrev pub after : ℕ → Piece → Stretch
after from p = record { kind = p.kind; to = from + p.more }

-- what a byte begins before others that few texts have
abbrev pub rare_before : ℕ → List ℕ → Piece
rare_before b bs =
    if b == 47 then slash_before bs
    else (if b == 39 then unsized_before bs else (if (b == 13) && begins 10 bs then passed 0 else token Stray 0))

-- the place of the lowest bit of 16 that is set, or 16
abbrev pub first_set : ℕ → ℕ
first_set mask = if mask == 0 then 16 else trailing_zeros w64 mask

-- the first token of a text from a place on
pub record IsFirst (start : ℕ) (text : List ℕ) (found : Token) : Type 0 where
  pub first : tokens_from 0 start (drop start text) ≡ found ∷ tokens_from 0 found.to (drop found.to text)
  pub within : found.to ≤ length text
