-- How the machine goes on, token by token, and which ways of the grammar each place stands for: for the functions
-- between.
use Rattle.std.specs.Prelude.{ℕ, zero, suc, ltb, Bool, true, false, List, [], ◌∷◌, Option, Some, None, if◌then◌else◌}
use Rattle.grammar_laws.specs.Grammar.{Part}
use Rattle.grammar_laws.specs.Grammar.Part.{one, many, named}
use Rattle.lib_text.specs.Grammar.{Name, library, is_colon, is_value, is_open, is_single, is_names, is_list, is_close, is_begin_in, is_end}
use Rattle.lib_text.specs.Grammar.Name.{in_library, in_cell, inside}
use Rattle.lib_text.specs.declared.kind.Kind.{Kind}
use Rattle.lib_text.specs.declared.kind.Kind.TheVariants.{Library, Cell, Pin, Word, Colon, Value, Open, Single, Several, Other, Close, Begin, End, Semicolon}
use Rattle.lib_text.specs.declared.state.State.{State}
use Rattle.lib_text.specs.declared.state.Head.{Head}
use Rattle.lib_text.specs.declared.state.Head.TheVariants.{Library as OfLibrary, Cell as OfCell, Pin as OfPin, Other as OfOther}
use Rattle.lib_text.specs.declared.state.At.{At}
use Rattle.lib_text.specs.declared.state.At.TheVariants.{Start, Body, Named, Value as AtValue, Opened, Listed, Passed, Closed}

-- ---- ways

-- the group whose statements come where so many groups are open
abbrev pub place : ℕ → Bool → Name
place zero cell = in_library
place (suc zero) cell = in_library
place (suc (suc zero)) true = in_cell
place (suc (suc zero)) false = inside 2
place (suc (suc (suc d))) cell = inside (suc (suc (suc d)))

-- what ends the groups that are open
abbrev pub ends : ℕ → Bool → List (Part Name Kind)
ends zero cell = []
ends (suc d) cell = many (named (place (suc d) cell)) ∷ one is_end ∷ ends d cell

-- how many groups are open around a statement with this name
abbrev pub depth_of : Head → ℕ → ℕ
depth_of OfLibrary d = 0
depth_of OfCell d = 1
depth_of OfPin d = 2
depth_of OfOther d = d

-- whether the second of them is a cell
abbrev pub cell_of : Head → Bool → Bool
cell_of OfPin cell = true
cell_of _ cell = cell

-- which arguments a group of this name has
abbrev pub names_of : Head → Kind → Bool
names_of OfLibrary k = is_list k
names_of OfCell k = is_single k
names_of OfPin k = is_names k
names_of OfOther k = is_list k

-- which statements stand in a group of this name
abbrev pub inner_of : Head → ℕ → Name
inner_of OfLibrary d = in_library
inner_of OfCell d = in_cell
inner_of OfPin d = inside 3
inner_of OfOther d = place (suc d) false

-- what comes after a statement of this name
abbrev pub rest_of : Head → ℕ → Bool → List (Part Name Kind)
rest_of head d cell = ends (depth_of head d) (cell_of head cell)

-- the statements of a group in its braces, and what comes after it
abbrev pub braces_of : Head → ℕ → Bool → List (Part Name Kind)
braces_of head d cell =
    one (is_begin_in (depth_of head d)) ∷ many (named (inner_of head d)) ∷ one is_end ∷ rest_of head d cell

-- the ways on from each place
abbrev pub ways_at : At → ℕ → Bool → List (List (Part Name Kind))
ways_at Start d cell = (library ∷ []) ∷ []
ways_at Body d cell = ends d cell ∷ []
ways_at (Named OfLibrary) d cell = (one is_open ∷ one is_list ∷ one is_close ∷ braces_of OfLibrary d cell) ∷ []
ways_at (Named head) d cell =
    (one is_colon ∷ one is_value ∷ rest_of head d cell)
    ∷ (one is_open ∷ one is_list ∷ one is_close ∷ rest_of head d cell)
    ∷ (one is_open ∷ one (names_of head) ∷ one is_close ∷ braces_of head d cell)
    ∷ []
ways_at AtValue d cell = (one is_value ∷ ends d cell) ∷ []
ways_at (Opened OfLibrary) d cell = (one is_list ∷ one is_close ∷ braces_of OfLibrary d cell) ∷ []
ways_at (Opened head) d cell =
    (one is_list ∷ one is_close ∷ rest_of head d cell)
    ∷ (one (names_of head) ∷ one is_close ∷ braces_of head d cell) ∷ []
ways_at (Listed OfLibrary) d cell = (one is_close ∷ braces_of OfLibrary d cell) ∷ []
ways_at (Listed head) d cell = (one is_close ∷ rest_of head d cell) ∷ (one is_close ∷ braces_of head d cell) ∷ []
ways_at Passed d cell = (one is_close ∷ ends d cell) ∷ []
ways_at (Closed OfLibrary) d cell = braces_of OfLibrary d cell ∷ []
ways_at (Closed head) d cell = rest_of head d cell ∷ braces_of head d cell ∷ []

-- the ways on from a state of the machine
abbrev pub ways : State → List (List (Part Name Kind))
ways s = ways_at s.at s.depth s.in_cell

-- ---- moves

-- the machine stands at this place
abbrev pub state : At → ℕ → Bool → Option State
state at d cell = Some (record { at = at; depth = d; in_cell = cell })

-- among the statements of a group
abbrev pub in_body : Kind → ℕ → Bool → Option State
in_body k zero cell = None
in_body Semicolon d cell = state Body d cell
in_body End (suc d) cell = state Body d cell
in_body Cell (suc zero) cell = state (Named OfCell) 1 cell
in_body Pin (suc (suc zero)) true = state (Named OfPin) 2 true
in_body Library d cell = state (Named OfOther) d cell
in_body Cell d cell = state (Named OfOther) d cell
in_body Pin d cell = state (Named OfOther) d cell
in_body Word d cell = state (Named OfOther) d cell
in_body _ d cell = None

-- after a name
abbrev pub after_name : Head → Kind → ℕ → Bool → Option State
after_name OfLibrary Colon d cell = None
after_name head Colon d cell = state AtValue (depth_of head d) (cell_of head cell)
after_name head Open d cell = state (Opened head) (depth_of head d) (cell_of head cell)
after_name head _ d cell = None

-- after a `(`
abbrev pub after_open : Head → Kind → ℕ → Bool → Option State
after_open head Single d cell = state (Listed head) (depth_of head d) (cell_of head cell)
after_open OfCell Several d cell = state Passed 1 cell
after_open head Several d cell = state (Listed head) (depth_of head d) (cell_of head cell)
after_open OfCell Other d cell = state Passed 1 cell
after_open OfPin Other d cell = state Passed 2 true
after_open head Other d cell = state (Listed head) (depth_of head d) (cell_of head cell)
after_open head _ d cell = None

-- a group of another name begins
abbrev pub open_group : ℕ → Bool → Option State
open_group (suc zero) cell = state Body 2 false
open_group d cell = if ltb d 64 then state Body (suc d) cell else None

-- after a `)`
abbrev pub after_close : Head → Kind → ℕ → Bool → Option State
after_close OfLibrary Begin d cell = state Body 1 false
after_close OfLibrary _ d cell = None
after_close OfCell Begin d cell = state Body 2 true
after_close OfPin Begin d cell = state Body 3 true
after_close OfOther Begin d cell = open_group d cell
after_close head k d cell = in_body k (depth_of head d) (cell_of head cell)

-- where a token leads from each place; `None`: it is not allowed there
abbrev pub move : At → Kind → ℕ → Bool → Option State
move Start Library d cell = state (Named OfLibrary) d cell
move Start _ d cell = None
move Body k d cell = in_body k d cell
move (Named head) k d cell = after_name head k d cell
move AtValue Value d cell = state Body d cell
move AtValue _ d cell = None
move (Opened head) k d cell = after_open head k d cell
move (Listed head) Close d cell = state (Closed head) (depth_of head d) (cell_of head cell)
move (Listed head) _ d cell = None
move Passed Close d cell = state Body d cell
move Passed _ d cell = None
move (Closed head) k d cell = after_close head k d cell

-- where a token leads from a state of the machine
abbrev pub next : State → Kind → Option State
next s k = move s.at k s.depth s.in_cell

-- the text may end here
abbrev pub is_done_at : At → ℕ → Bool
is_done_at Body zero = true
is_done_at (Closed OfOther) zero = true
is_done_at _ d = false

-- the text may end in a state of the machine
abbrev pub is_done : State → Bool
is_done s = is_done_at s.at s.depth
