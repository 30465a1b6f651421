-- A group of a text, and what stands in it. Source: Liberty User Guide, Synopsys, on group statements and attributes.
use Rattle.std.specs.Prelude.{ℕ, ◌==◌, ◌&&◌, nat_lt, Bool, true, false, List, [], ◌∷◌, drop, Option, option_map, if◌then◌else◌}
use Rattle.std.specs.List.{before_first, find, take_while}
use Rattle.std.specs.Str.{bytes_eq}
use Rattle.vg_scan.specs.Lines.{part}
use Rattle.lib_text.specs.declared.statement.Statement.{Statement}
use Rattle.lib_text.specs.declared.statement.Form.{Form}
use Rattle.lib_text.specs.declared.statement.Form.TheVariants.{Simple, Complex, Group as OfGroup}
use Rattle.lib_text.specs.Arguments.{trimmed, unquoted, arguments_of}
use Rattle.lib_text.specs.Statements.{statements_of}
use Rattle.lib_text.specs.Tokens.{is_word_byte}

-- A group of a text: its statement, and the statements inside it, those of groups in it as well.
pub record Group : Type 0 where
  pub text : List ℕ
  pub head : Statement
  pub body : List Statement

-- the identifier that begins at a place
abbrev pub word_at : List ℕ → ℕ → List ℕ
word_at text at = take_while is_word_byte (drop at text)

-- the same form
abbrev pub is_form : Form → Form → Bool
is_form Simple Simple = true
is_form Complex Complex = true
is_form OfGroup OfGroup = true
is_form _ _ = false

-- a statement stands in a group and in none within it, and has this form and this name
abbrev pub is_in : Group → Form → List ℕ → Statement → Bool
is_in group form name s =
    (s.group == group.head.name) && (is_form form s.form && bytes_eq (word_at group.text s.name) name)

-- the first simple attribute of a group with this name: of one that is given twice the first counts
abbrev pub attribute : Group → List ℕ → Option Statement
attribute group name = find (is_in group Simple name) group.body

-- the first complex attribute of a group with this name
abbrev pub complex_attribute : Group → List ℕ → Option Statement
complex_attribute group name = find (is_in group Complex name) group.body

-- the value of a simple attribute, without blanks at its ends and without one pair of quotes
abbrev pub value_of : List ℕ → Statement → List ℕ
value_of text s = unquoted (trimmed (part text s.from s.to))

-- the arguments of a complex attribute or of a group
abbrev pub list_of : List ℕ → Statement → List ℕ
list_of text s = part text s.from s.to

-- the value of the first simple attribute of a group with this name
abbrev pub value_in : Group → List ℕ → Option (List ℕ)
value_in group name = option_map (value_of group.text) (attribute group name)

-- the statements inside a group, of those after its own: those before the first that stands in a group that began
-- earlier
abbrev pub inside : Statement → List Statement → List Statement
inside head after = before_first (λ s. nat_lt s.group head.name) after

-- the group of a statement, before these
abbrev pub group_of : List ℕ → Statement → List Statement → Group
group_of text head after = record { text = text; head = head; body = inside head after }

-- the groups with this name that stand in a group and in none within it, of these statements
unfoldable pub groups_from : Group → List ℕ → List Statement → List Group
groups_from group name [] = []
groups_from group name (s ∷ after) =
    if is_in group OfGroup name s then group_of group.text s after
    ∷ groups_from group name after else groups_from group name after

-- the groups with this name that stand in a group and in none within it, in order
abbrev pub groups_in : Group → List ℕ → List Group
groups_in group name = groups_from group name group.body

-- the arguments of a group
abbrev pub names_of : Group → List (List ℕ)
names_of group = arguments_of (list_of group.text group.head)

-- the first statement of a text; of one that has none an empty one stands in its place
abbrev pub first_statement : List Statement → Statement
first_statement [] = record { group = 0; form = OfGroup; name = 0; from = 0; to = 0 }
first_statement (s ∷ after) = s

-- the group that a library is: its first statement, with all that follow
abbrev pub library_in : List ℕ → List Statement → Group
library_in text statements = record { text = text; head = first_statement statements; body = drop 1 statements }

-- the library of a text
abbrev pub library_of : List ℕ → Group
library_of text = library_in text (statements_of text)
