-- What is wrong with a text that has the grammar of a module, and which of it comes first.
use Rattle.std.specs.Prelude.{◌≡◌, ℕ, ◌==◌, nat_lt, Bool, true, false, not, ◌&&◌, ◌||◌, List, [], ◌∷◌, ◌++◌, length, map, filter, is_none, Option, Some, None}
use Rattle.std.specs.List.{All, Contains, flat_map, list_any}
use Rattle.std.specs.Str.{bytes_eq}
use Rattle.name_tables.specs.Distinct.{with_name}
use Rattle.vg_scan.specs.declared.fault.LineFault.{LineFault}
use Rattle.ver_syntax.specs.declared.fault.VerKind.{VerKind}
use Rattle.ver_syntax.specs.declared.fault.VerKind.TheVariants.{Grammar, NameClash, InstanceTwice}
use Rattle.ver_syntax.specs.declared.row.Place.TheVariants.{Ports, Assignment}
use Rattle.ver_syntax.specs.declared.row.Row.{Row}
use Rattle.ver_syntax.specs.Syntax.{line_at}
use Rattle.ver_module.specs.declared.range.Range.{Range}
use Rattle.ver_file.specs.declared.first.Flaw.{Flaw}
use Rattle.ver_module.specs.declared.direction.PortDir.{PortDir}
use Rattle.ver_module.specs.declared.direction.PortDir.TheVariants.{Input, Output, Inout}
use Rattle.ver_items.specs.Sections.{Section, sections, is_name_in, name_at, items, instances_in, pins_in}
use Rattle.ver_items.specs.Declarations.{Declared, declared_by, declared_of, direction_in, range_in}
use Rattle.ver_items.specs.Bits.{fits, select_before}
use Rattle.ver_module.specs.Netlists.{Net}
use Rattle.ver_file.specs.Nets.{nets_at, tokens_of_nets}
use Rattle.ver_file.specs.Netlists.{identifiers_in, range_at}

-- this place, where a test fails
abbrev pub unless : Bool → ℕ → List ℕ
unless true place = []
unless false place = place ∷ []

-- ---- names that are given twice

-- a name that is given at a place
pub record Named : Type 0 where
  pub place : ℕ
  pub name : List ℕ

-- the places of names that were given before, where these are the names before
unfoldable pub repeated : List (List ℕ) → List Named → List ℕ
repeated names [] = []
repeated names (n ∷ ns) =
    unless (not (list_any (bytes_eq n.name) names)) n.place ++ repeated (with_name names n.name) ns

-- the name with which a section begins
abbrev pub named : List ℕ → Section → Named
named text s = record { place = s.head.from; name = name_at text s.head }

-- ---- NameClash

-- the same range, or none
abbrev pub is_range : Option Range → Option Range → Bool
is_range None None = true
is_range (Some a) (Some b) = (a.left == b.left) && (a.right == b.right)
is_range _ _ = false

-- an identifier is declared with a range that is not that of its first declaration
abbrev pub range_flaws : List Declared → Declared → List ℕ
range_flaws ds d = unless (is_range (range_in ds d.name) d.heading.range) d.place

-- the name of a net, given at a place
abbrev pub given : ℕ → Net → Named
given place net = record { place = place; name = net.name }

-- the nets of an identifier, each given at its first token
abbrev pub named_nets : List ℕ → Row → List Named
named_nets text r = map (given r.from) (nets_at text (declared_of text) r)

-- two nets have one name: a bit, and a scalar whose escaped identifier is written as that bit
abbrev pub name_flaws : List ℕ → List ℕ
name_flaws text = repeated [] (flat_map (named_nets text) (tokens_of_nets text))

abbrev pub clashes : List ℕ → List ℕ
clashes text = name_flaws text ++ flat_map (range_flaws (declared_of text)) (declared_of text)

-- ---- InstanceTwice

abbrev pub instance_flaws : List ℕ → List ℕ
instance_flaws text = repeated [] (map (named text) (flat_map instances_in (items text)))

-- ---- Grammar

-- a direction is not another one than this
abbrev pub agrees : Option PortDir → Option PortDir → Bool
agrees _ None = true
agrees (Some Input) (Some Input) = true
agrees (Some Output) (Some Output) = true
agrees (Some Inout) (Some Inout) = true
agrees _ _ = false

-- an identifier is declared with two directions
abbrev pub direction_flaws : List Declared → Declared → List ℕ
direction_flaws ds d = unless (agrees (direction_in ds d.name) d.heading.direction) d.place

-- the identifiers in the list of ports
abbrev pub ports_in : Section → List Row
ports_in item = filter (is_name_in Ports) item.body

-- a listed port has no direction; only the text's end shows it
abbrev pub port_flaws : List ℕ → Row → List ℕ
port_flaws text r = unless (not (is_none (direction_in (declared_of text) (name_at text r)))) (length text)

-- a bit or a part does not lie in its identifier's range
abbrev pub select_flaws : List ℕ → Section → List ℕ
select_flaws text s = unless (fits (select_before text s.body) (range_at text s.head)) s.head.from

-- the same in the assignments of an item
abbrev pub assignment_flaws : List ℕ → Section → List ℕ
assignment_flaws text item = flat_map (select_flaws text) (sections (is_name_in Assignment) item.body)

-- a pin is named twice in one instance
abbrev pub pin_flaws : List ℕ → Section → List ℕ
pin_flaws text i = repeated [] (map (named text) (pins_in i))

-- a bit or a part in a connection of an instance does not lie in its identifier's range
abbrev pub link_flaws : List ℕ → Section → List ℕ
link_flaws text i = flat_map (select_flaws text) (flat_map identifiers_in (pins_in i))

-- the flaws of an instance
abbrev pub connection_flaws : List ℕ → Section → List ℕ
connection_flaws text i = pin_flaws text i ++ link_flaws text i

-- the flaws of an item's syntax
abbrev pub syntax_flaws : List ℕ → Section → List ℕ
syntax_flaws text item =
    flat_map (direction_flaws (declared_of text)) (declared_by text item)
    ++ (flat_map (port_flaws text) (ports_in item)
    ++ (assignment_flaws text item ++ flat_map (connection_flaws text) (instances_in item)))

abbrev pub grammar_flaws : List ℕ → List ℕ
grammar_flaws text = flat_map (syntax_flaws text) (items text)

-- ---- the first

-- this kind of flaw at some places
abbrev pub flaws_at : VerKind → List ℕ → List Flaw
flaws_at kind places = map (λ place. record { place = place; kind = kind }) places

-- the flaws of a text
abbrev pub flaws_of : List ℕ → List Flaw
flaws_of text =
    flaws_at NameClash (clashes text)
    ++ (flaws_at InstanceTwice (instance_flaws text) ++ flaws_at Grammar (grammar_flaws text))

-- the order of kinds at one place
abbrev pub rank : VerKind → ℕ
rank NameClash = 0
rank InstanceTwice = 1
rank _ = 2

-- a flaw comes before another one: at an earlier place, or at its place by its kind
abbrev pub is_before : Flaw → Flaw → Bool
is_before a b = nat_lt a.place b.place || ((a.place == b.place) && nat_lt (rank a.kind) (rank b.kind))

-- the first of some flaws, told by its line
pub record IsFirst (text : List ℕ) (flaws : List Flaw) (fault : LineFault VerKind) : Type 0 where
  pub found : Flaw
  pub among : Contains flaws found
  pub least : All (λ other. is_before other found ≡ false) flaws
  pub kind : fault.kind ≡ found.kind
  pub line : fault.line ≡ line_at text found.place
