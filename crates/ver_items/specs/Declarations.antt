-- What a module declares. Source: IEEE Std 1364-2005, clauses 4.2 (nets and vectors) and 12.3 (ports): a direction, a
-- type of nets and a range hold for each identifier of a declaration; in a list of ports, for those up to the next
-- direction.
use Rattle.std.specs.Prelude.{ℕ, Bool, ◌&&◌, ◌||◌, List, ◌∷◌, codes, filter, find, map, is_some, Option, Some, None, option_and_then, if◌then◌else◌}
use Rattle.std.specs.List.{flat_map, list_any}
use Rattle.std.specs.Str.{bytes_eq}
use Rattle.ver_text.specs.declared.kind.Kind.TheVariants.{Direction}
use Rattle.ver_syntax.specs.declared.row.Place.TheVariants.{Start}
use Rattle.ver_syntax.specs.declared.row.Row.{Row}
use Rattle.ver_syntax.specs.Grammar.{is, is_digits, is_net}
use Rattle.ver_items.specs.declared.heading.Heading.{Heading}
use Rattle.ver_module.specs.declared.direction.PortDir.{PortDir}
use Rattle.ver_module.specs.declared.direction.PortDir.TheVariants.{Input, Output, Inout}
use Rattle.ver_module.specs.declared.range.Range.{Range}
use Rattle.ver_items.specs.Sections.{Section, sections, stands_in, is_net_name, bytes_at, name_at, number_at, items}

-- an identifier that is declared at a place, and what is said of it there
pub record Declared : Type 0 where
  pub place : ℕ
  pub name : List ℕ
  pub heading : Heading

-- the direction of a keyword, if it is one of a direction
abbrev pub direction_named : List ℕ → Option PortDir
direction_named word =
    if bytes_eq word (codes "input") then Some Input
    else (if bytes_eq word (codes "output") then Some Output
    else (if bytes_eq word (codes "inout") then Some Inout else None))

-- a keyword for nets of a fixed value
abbrev pub is_supply : List ℕ → Bool
is_supply word = bytes_eq word (codes "supply0") || bytes_eq word (codes "supply1")

-- the range with these bounds
abbrev pub range_of : List ℕ → Option Range
range_of (left ∷ right ∷ ns) = Some (record { left = left; right = right })
range_of _ = None

-- a token begins a declaration: a direction, in a list of ports too, or a type of nets that begins an item
abbrev pub begins_declaration : Row → Bool
begins_declaration r = is Direction r.kind || (stands_in Start r && is_net r.kind)

-- the declarations of an item: a list of ports has one from each direction on
abbrev pub declarations_in : Section → List Section
declarations_in item = sections begins_declaration (item.head ∷ item.body)

-- the numbers of a declaration, which are the bounds of its range
abbrev pub numbers_in : List ℕ → Section → List ℕ
numbers_in text d = map (number_at text) (filter (λ r. is_digits r.kind) d.body)

-- what a declaration says of its identifiers
abbrev pub heading_of : List ℕ → Section → Heading
heading_of text d = record {
  direction = direction_named (bytes_at text d.head);
  supply = is_supply (bytes_at text d.head);
  range = range_of (numbers_in text d);
}

-- an identifier of a declaration
abbrev pub declare : List ℕ → Heading → Row → Declared
declare text heading r = record { place = r.from; name = name_at text r; heading = heading }

-- the identifiers of a declaration
abbrev pub declared_in : List ℕ → Section → List Declared
declared_in text d = map (declare text (heading_of text d)) (filter is_net_name d.body)

-- the declared identifiers of an item
abbrev pub declared_by : List ℕ → Section → List Declared
declared_by text item = flat_map (declared_in text) (declarations_in item)

-- the declared identifiers of a text, in order, each as often as it is declared
abbrev pub declared_of : List ℕ → List Declared
declared_of text = flat_map (declared_by text) (items text)

-- ---- an identifier

-- the first declaration of an identifier
abbrev pub first_declared : List Declared → List ℕ → Option Declared
first_declared ds name = find (λ d. bytes_eq name d.name) ds

-- the range of an identifier: one that is not declared is a scalar
abbrev pub range_in : List Declared → List ℕ → Option Range
range_in ds name = option_and_then (λ d. d.heading.range) (first_declared ds name)

-- the direction of an identifier: that of its first declaration that gives one
abbrev pub direction_in : List Declared → List ℕ → Option PortDir
direction_in ds name =
    option_and_then (λ d. d.heading.direction) (find (λ d. bytes_eq name d.name && is_some d.heading.direction) ds)

-- an identifier is declared as a supply
abbrev pub is_supply_in : List Declared → List ℕ → Bool
is_supply_in ds name = list_any (λ d. bytes_eq name d.name && d.heading.supply) ds
