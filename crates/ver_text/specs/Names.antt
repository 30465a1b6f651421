-- The names that identifiers give. Source: IEEE Std 1364-2005, clause 3.7 and annex B.
use Rattle.std.specs.Prelude.{ℕ, Bool, true, false, ◌&&◌, List, [], ◌∷◌, ◌++◌, drop, if◌then◌else◌}
use Rattle.std.specs.List.{list_all}
use Rattle.ver_text.specs.declared.kind.Kind.{Kind}
use Rattle.ver_text.specs.declared.kind.Kind.TheVariants.{Identifier}
use Rattle.ver_text.specs.Bytes.{is_letter, is_word_byte}
use Rattle.ver_text.specs.Kinds.{word_kind}
use Rattle.ver_text.specs.Tokens.{begins}

-- an identifier is an escaped one
abbrev pub is_escaped : List ℕ → Bool
is_escaped identifier = begins 92 identifier

-- the name that an identifier gives: the backslash of an escaped one is no part of it
abbrev pub name_of : List ℕ → List ℕ
name_of identifier = if is_escaped identifier then drop 1 identifier else identifier

-- a letter or `_`, and then letters, digits, `_` and `$`
abbrev pub is_word : List ℕ → Bool
is_word [] = false
is_word (b ∷ bs) = is_letter b && list_all is_word_byte bs

abbrev pub is_identifier : Kind → Bool
is_identifier Identifier = true
is_identifier _ = false

-- a name is a simple identifier: such a word that is no keyword
abbrev pub is_simple : List ℕ → Bool
is_simple name = is_word name && is_identifier (word_kind name)

-- a name as an escaped identifier, with the blank that ends it
abbrev pub escaped : List ℕ → List ℕ
escaped name = 92 ∷ name ++ 32 ∷ []

-- a name as an identifier: as it is where it is a simple one, else escaped
abbrev pub printed : List ℕ → List ℕ
printed name = if is_simple name then name else escaped name
