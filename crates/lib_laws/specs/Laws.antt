-- Laws of a text's statements, and of its joined lines. Source: Liberty User Guide, Synopsys, on group statements,
-- attributes and statements over several lines.
use Rattle.std.specs.Prelude.{◌≡◌, ℕ, ◌+◌, ◌<◌, ◌≤◌, ◌==◌, ◌&&◌, ◌⊎◌, nat_lt, Bool, true, false, List, ◌∷◌, ◌++◌, length, get_or}
use Rattle.std.specs.List.{All, filter, find}
use Rattle.lib_text.specs.declared.statement.Statement.{Statement}
use Rattle.lib_text.specs.declared.statement.Form.{Form}
use Rattle.lib_text.specs.Groups.{group_of, groups_from, groups_in, inside, is_in}
use Rattle.lib_text.specs.Joined.{is_at, is_mark, is_return_at, joined, line_end_length}
use Rattle.lib_text.specs.Statements.{statements_of}
use Rattle.lib_text.specs.Syntax.{IsLibrary}

-- in a text these statements, and no others, stand after this one
abbrev pub StandAfter : List ℕ → Statement → List Statement → Type 0
StandAfter text s after = (before : List Statement) × (statements_of text ≡ before ++ s ∷ after)

-- Statements stand in the order of their names: none after another one has a name that begins before the other's.
abbrev pub InOrder : Type 0
InOrder = (text : List ℕ) (s : Statement) (after : List Statement) → StandAfter text s after
    → All (λ t. s.name ≤ t.name) after

-- a statement's name is its own: it is not the name of one after it, and theirs begin further on
abbrev pub HasOwnName : Statement → List Statement → Type 0
HasOwnName s after = All (λ t. s.name < t.name) after

-- In a library each statement has a name of its own.
abbrev pub NamesAreOwn : Type 0
NamesAreOwn = (text : List ℕ) (s : Statement) (after : List Statement) → IsLibrary text
    → StandAfter text s after → HasOwnName s after

-- a statement stands in the group of another one, and in none within it
abbrev pub stands_in : Statement → Statement → Bool
stands_in head s = s.group == head.name

-- What stands in a group stands inside it: once a statement stands in a group that began earlier, none after that
-- stands in this one.
abbrev pub GroupIsInside : Type 0
GroupIsInside =
    (text : List ℕ) (head : Statement) (after : List Statement) → StandAfter text head after → HasOwnName head after
    → filter (stands_in head) after ≡ filter (stands_in head) (inside head after)

-- An attribute of a group is found inside it: a search through all that follows the group's own statement finds the
-- same.
abbrev pub FoundInside : Type 0
FoundInside =
    (text : List ℕ) (head : Statement) (after : List Statement) → StandAfter text head after → HasOwnName head after
    → (form : Form) (name : List ℕ)
    → find (is_in (group_of text head after) form name) (inside head after)
    ≡ find (is_in (group_of text head after) form name) after

-- The groups in a group are found inside it, each with all its statements: a search through all that follows the
-- group's own statement gives the same.
abbrev pub GroupsInside : Type 0
GroupsInside =
    (text : List ℕ) (head : Statement) (after : List Statement) → StandAfter text head after
    → HasOwnName head after → (name : List ℕ)
    → groups_in (group_of text head after) name ≡ groups_from (group_of text head after) name after

-- at this place a backslash stands just before a line's end, so that the line goes on
abbrev pub goes_on : List ℕ → ℕ → Bool
goes_on text at = is_at text at 92 && nat_lt 0 (line_end_length text (at + 1))

-- at this place stands a backslash where a line goes on, or a byte of the line's end after one
abbrev pub IsContinuation : List ℕ → ℕ → Type 0
IsContinuation text at =
    (from : ℕ) × (goes_on text from ≡ true) × (from ≤ at) × (at ≤ from + line_end_length text (from + 1))

-- once lines are joined this place is blank: it belongs to where a line goes on, or is a carriage return before a
-- newline
abbrev pub IsBlanked : List ℕ → ℕ → Type 0
IsBlanked text at = IsContinuation text at ⊎ (is_return_at text at ≡ true)

-- Joined lines keep each byte in its place: there stands a space where they are blank, and else the byte of the text.
abbrev pub JoinedByPlace : Type 0
JoinedByPlace =
    (text : List ℕ) → (length (joined text) ≡ length text)
    × ((at : ℕ) → at < length text → IsBlanked text at → get_or (joined text) at 0 ≡ 32)
    × ((at : ℕ) → at < length text → (IsBlanked text at → ⊥) → get_or (joined text) at 0 ≡ get_or text at 0)

-- A text without backslashes and carriage returns is unchanged.
abbrev pub PlainStays : Type 0
PlainStays = (text : List ℕ) → All (λ b. is_mark b ≡ false) text → joined text ≡ text
