-- A text that is read up to a token, as the code does it: for the functions between.
use Rattle.std.specs.Prelude.{◌≡◌, ℕ, ◌-◌, true, false, List, [], ◌++◌, length, take, drop, find, Option, None, Some, is_some}
use Rattle.std.specs.List.{list_any}
use Rattle.grammar_laws.specs.Ways.{IsLeft}
use Rattle.ver_text.specs.declared.kind.Kind.{Kind}
use Rattle.ver_text.specs.declared.kind.Kind.TheVariants.{Identifier, Open, Stray}
use Rattle.ver_syntax.specs.declared.machine.Machine.{Machine}
use Rattle.ver_syntax.specs.declared.state.At.{At}
use Rattle.ver_syntax.specs.declared.state.Brace.{Brace}
use Rattle.ver_text.specs.declared.token.Token.{Token}
use Rattle.ver_syntax.specs.Grammar.{is, rules, module_declaration}
use Rattle.ver_text.specs.Kinds.{kinds_of}
use Rattle.ver_syntax.specs.Moves.{Way, ways_at, is_named, is_opened}
use Rattle.ver_syntax.specs.Syntax.{is_bad, ends_in}
use Rattle.ver_text.specs.Tokens.{tokens_of}

-- how many tokens stand before those that are left
abbrev pub count_done : List ℕ → List Token → ℕ
count_done text left = length (tokens_of text) - length left

-- these tokens are left, and the machine has read those before, each of which is one
pub record HasRead (text : List ℕ) (left : List Token) (at : At) (braces : List Brace) : Type 0 where
  pub good : find is_bad (tokens_of text) ≡ find is_bad left
  pub rest : drop (count_done text left) (tokens_of text) ≡ left
  pub ways : IsLeft rules module_declaration (take (count_done text left) (kinds_of text)) (ways_at at braces)
  pub opened : ends_in Open (take (count_done text left) (kinds_of text)) ≡ is_opened at
  pub named : ends_in Identifier (take (count_done text left) (kinds_of text)) ≡ is_named at

-- ---- by kinds alone

-- the ways on from a place, if there is one
abbrev pub ways_on : Option At → List Brace → List Way
ways_on None bs = []
ways_on (Some at) bs = ways_at at bs

-- a machine has read tokens of these kinds: a module goes on after them in the ways of its place, and as long as one
-- can, each of them is a token
pub record HasKinds (kinds : List Kind) (machine : Machine) : Type 0 where
  pub ways : IsLeft rules module_declaration kinds (ways_on machine.at machine.braces)
  pub tokens : is_some machine.at ≡ true → list_any (is Stray) kinds ≡ false

-- the same of tokens of these kinds but for the last ones, which are left
pub record HasKindsBefore (left kinds : List Kind) (machine : Machine) : Type 0 where
  pub before : List Kind
  pub read : HasKinds before machine
  pub whole : before ++ left ≡ kinds
