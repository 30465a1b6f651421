-- A text that is read up to a place, as the code does it: for the functions between.
use Rattle.std.specs.Prelude.{◌≡◌, ℕ, ◌-◌, List, length, take, drop, Bool, true, false, Option}
use Rattle.grammar_laws.specs.Ways.{IsLeft}
use Rattle.lib_text.specs.declared.state.At.{At}
use Rattle.lib_text.specs.declared.state.At.TheVariants.{Opened}
use Rattle.lib_text.specs.declared.state.Head.TheVariants.{Cell, Pin}
use Rattle.lib_text.specs.declared.state.State.{State}
use Rattle.lib_text.specs.declared.token.Content.{Content}
use Rattle.lib_text.specs.Found.{tokens_next}
use Rattle.lib_text.specs.Grammar.{rules, library}
use Rattle.lib_text.specs.Kinds.{kinds_of}
use Rattle.lib_text.specs.Moves.{ways}
use Rattle.lib_text.specs.Tokens.{tokens_of}

-- how many tokens stand before those that are left
abbrev pub count_done : List ℕ → Option Content → ℕ → ℕ
count_done text content at = length (tokens_of text) - length (tokens_next text content at)

-- these tokens are left, and the machine has read those before
pub record HasRead (text : List ℕ) (content : Option Content) (at : ℕ) (state : State) : Type 0 where
  pub rest : drop (count_done text content at) (tokens_of text) ≡ tokens_next text content at
  pub ways : IsLeft rules library (take (count_done text content at) (kinds_of text)) (ways state)

-- the next arguments are to be names, or the group is none
abbrev pub wants_names : At → Bool
wants_names (Opened Cell) = true
wants_names (Opened Pin) = true
wants_names _ = false
