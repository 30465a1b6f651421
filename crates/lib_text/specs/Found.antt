-- One token after another, as the code reads them: for the functions between.
use Rattle.std.specs.Prelude.{◌≡◌, ℕ, ◌+◌, ◌*◌, ◌-◌, ◌<◌, ◌≤◌, List, ◌∷◌, ◌++◌, length, drop, Option, Some, None}
use Rattle.lib_text.specs.declared.token.Token.{Token}
use Rattle.lib_text.specs.declared.token.Content.{Content}
use Rattle.lib_text.specs.declared.token.Found.{Found}
use Rattle.lib_text.specs.Tokens.{content_at, content_length, tokens_from}

-- the tokens of a text from a place on, the first of them of this content
abbrev pub tokens_next : List ℕ → Option Content → ℕ → List Token
tokens_next text content at =
    content_at content at (drop at text) ++ tokens_from (content_length content (drop at text)) at (drop at text)

-- a content may be empty: it counts by itself
abbrev pub waiting : Option Content → ℕ
waiting None = 0
waiting (Some content) = 1

-- falls from token to token
abbrev pub left : List ℕ → Option Content → ℕ → ℕ
left text content at = 2 * (length text - at) + waiting content

-- the first of these tokens, and where the others go on
pub record IsFirst (text : List ℕ) (content : Option Content) (at : ℕ) (found : Found) : Type 0 where
  pub first : tokens_next text content at ≡ found.token ∷ tokens_next text found.content found.at
  pub within : found.at ≤ length text
  pub falls : left text found.content found.at < left text content at
  pub places : (found.token.from ≤ length text) × (found.token.to ≤ length text)
