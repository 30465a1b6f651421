-- Where the tokens of an item are: for the functions between.
use Rattle.std.specs.Prelude.{◌≡◌, ◌⊎◌, ◌++◌, ℕ, List, Option, Some, None, length}
use Rattle.ver_syntax.specs.declared.row.Row.{Row}
use Rattle.ver_items.specs.declared.item.Tokens.{Tokens}
use Rattle.ver_items.specs.declared.item.Tokens.TheVariants.{Held, Cut}

-- the tokens
abbrev pub tokens_in : Tokens → List Row
tokens_in (Held rows) = rows.now
tokens_in (Cut rows) = rows

-- those that are held, or others in their place
abbrev pub or_held : Option Tokens → List Row → List Row
or_held None held = held
or_held (Some others) held = tokens_in others

-- after tokens that are held, where all before these are: these are held too, or no more than before
abbrev pub IsHeldOn : ℕ → List Row → List Row → List Row → Type 0
IsHeldOn before rows old new = (new ≡ old) ⊎ ((length old ≡ before) × (new ≡ old ++ rows))
