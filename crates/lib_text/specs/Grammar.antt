-- The grammar of a library, over kinds of tokens. Source: Liberty User Guide, Synopsys: a group statement has a name,
-- arguments and statements; a simple attribute a name and a value; a complex attribute a name and arguments.
use Rattle.std.specs.Prelude.{ℕ, suc, ltb, Bool, true, false, ◌&&◌, not, List, [], ◌∷◌}
use Rattle.grammar_laws.specs.Grammar.{Part}
use Rattle.grammar_laws.specs.Grammar.Part.{one, nothing, both, either, many, named}
use Rattle.lib_text.specs.declared.kind.Kind.{Kind}
use Rattle.lib_text.specs.declared.kind.Kind.TheVariants.{Library, Cell, Pin, Word, Colon, Value, Open, Single, Several, Other, Close, Begin, End, Semicolon}

-- the statements of the library, of a cell, and of any other group, with how many groups are open there
pub data Name : Type 0 where
  in_library : Name
  in_cell : Name
  inside : ℕ → Name

-- parts one after another
abbrev pub seq : List (Part Name Kind) → Part Name Kind
seq [] = nothing
seq (a ∷ rest) = both a (seq rest)

-- one of some parts
abbrev pub any : List (Part Name Kind) → Part Name Kind
any [] = nothing
any (a ∷ []) = a
any (a ∷ b ∷ rest) = either a (any (b ∷ rest))

-- the identifier `library`
abbrev pub is_library : Kind → Bool
is_library Library = true
is_library _ = false

-- the identifier `cell`
abbrev pub is_cell : Kind → Bool
is_cell Cell = true
is_cell _ = false

-- the identifier `pin`
abbrev pub is_pin : Kind → Bool
is_pin Pin = true
is_pin _ = false

-- any identifier
abbrev pub is_word : Kind → Bool
is_word Library = true
is_word Cell = true
is_word Pin = true
is_word Word = true
is_word _ = false

-- `:`
abbrev pub is_colon : Kind → Bool
is_colon Colon = true
is_colon _ = false

-- the value of a simple attribute
abbrev pub is_value : Kind → Bool
is_value Value = true
is_value _ = false

-- `(`
abbrev pub is_open : Kind → Bool
is_open Open = true
is_open _ = false

-- arguments that are one name
abbrev pub is_single : Kind → Bool
is_single Single = true
is_single _ = false

-- arguments that are one name or more
abbrev pub is_names : Kind → Bool
is_names Single = true
is_names Several = true
is_names _ = false

-- any arguments
abbrev pub is_list : Kind → Bool
is_list Single = true
is_list Several = true
is_list Other = true
is_list _ = false

-- `)`
abbrev pub is_close : Kind → Bool
is_close Close = true
is_close _ = false

-- `{`
abbrev pub is_begin : Kind → Bool
is_begin Begin = true
is_begin _ = false

-- `}`
abbrev pub is_end : Kind → Bool
is_end End = true
is_end _ = false

-- `;`
abbrev pub is_semicolon : Kind → Bool
is_semicolon Semicolon = true
is_semicolon _ = false

-- the `{` of a group where so many are open already: at most 64 are open at once, the library itself counted
abbrev pub is_begin_in : ℕ → Kind → Bool
is_begin_in depth k = is_begin k && ltb depth 64

-- the statements of a group in its braces, where so many groups are open already
abbrev pub body : Name → ℕ → List (Part Name Kind)
body name depth = one (is_begin_in depth) ∷ many (named name) ∷ one is_end ∷ []

-- a simple attribute
abbrev pub simple : Part Name Kind
simple = seq (one is_word ∷ one is_colon ∷ one is_value ∷ [])

-- a complex attribute
abbrev pub complex : Part Name Kind
complex = seq (one is_word ∷ one is_open ∷ one is_list ∷ one is_close ∷ [])

-- a group with such a name and such arguments, and these statements
abbrev pub group : (Kind → Bool) → (Kind → Bool) → Name → ℕ → Part Name Kind
group word names inner depth = seq (one word ∷ one is_open ∷ one names ∷ one is_close ∷ body inner depth)

-- any identifier but `cell`
abbrev pub is_no_cell : Kind → Bool
is_no_cell k = is_word k && not (is_cell k)

-- any identifier but `pin`
abbrev pub is_no_pin : Kind → Bool
is_no_pin k = is_word k && not (is_pin k)

-- The statements of a group. One `;` alone is a statement that says nothing, so that one after an attribute may stand
-- or not. A cell of the library has one name, and a pin of a cell one or more.
abbrev pub rules : Name → Part Name Kind
rules in_library =
    any (one is_semicolon ∷ simple ∷ complex ∷ group is_cell is_single in_cell 1
    ∷ group is_no_cell is_list (inside 2) 1 ∷ [])
rules in_cell =
    any (one is_semicolon ∷ simple ∷ complex ∷ group is_pin is_names (inside 3) 2
    ∷ group is_no_pin is_list (inside 3) 2 ∷ [])
rules (inside depth) =
    any (one is_semicolon ∷ simple ∷ complex ∷ group is_word is_list (inside (suc depth)) depth ∷ [])

-- a library: one group, and nothing after it
abbrev pub library : Part Name Kind
library = group is_library is_list in_library 0
