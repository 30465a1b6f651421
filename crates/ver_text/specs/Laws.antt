-- What is true of the tokens of every text.
use Rattle.std.specs.Prelude.{ℕ, ◌<◌, ◌≤◌, List, [], ◌∷◌, length}
use Rattle.ver_text.specs.declared.token.Token.{Token}
use Rattle.ver_text.specs.Tokens.{tokens_of}

-- tokens stand one after another between two places of a text, and none is empty
abbrev pub StandBetween : ℕ → ℕ → List Token → Type 0
StandBetween from to [] = from ≤ to
StandBetween from to (t ∷ ts) = (from ≤ t.from) × (t.from < t.to) × StandBetween t.to to ts

-- the tokens of a text stand in it, one after another
abbrev pub StandInOrder : Type 0
StandInOrder = (text : List ℕ) → StandBetween 0 (length text) (tokens_of text)
