-- Statements that come token by token, as the code makes them: for the functions between.
use Rattle.std.specs.Prelude.{◌≡◌, ℕ, ◌+◌, ◌≤◌, List, ◌++◌, length, reverse}
use Rattle.lib_text.specs.declared.token.Token.{Token}
use Rattle.lib_text.specs.declared.token.Found.{Found}
use Rattle.lib_text.specs.Found.{tokens_next}
use Rattle.lib_text.specs.declared.statement.Statement.{Statement}
use Rattle.lib_text.specs.Statements.{added, top, open_after}

-- a token was taken, before these
pub record TakesToken (t : Token) (ts : List Token) (name : ℕ) (groups groups' : List ℕ)
    (old new : List Statement) : Type 0 where
  pub grown : new ≡ old ++ added t.kind (top (reverse groups)) name t ts
  pub opened : reverse groups' ≡ open_after t.kind (reverse groups) name
  pub most : length new ≤ length old + 1

-- a token was taken that was found in a text: so the groups that are open changed, and so the statements
abbrev pub TakesFound : List ℕ → Found → ℕ → List ℕ × List ℕ → List Statement × List Statement → Type 0
TakesFound text found name groups statements =
    TakesToken found.token (tokens_next text found.content found.at) name groups.0 groups.1 statements.0 statements.1
