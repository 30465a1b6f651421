-- A text cut into its items, and an item into what it lists. Source: IEEE Std 1364-2005, annex A.
use Rattle.std.specs.Prelude.{ℕ, min, ◌+◌, ◌^◌, Bool, true, false, ◌&&◌, List, [], ◌∷◌, if◌then◌else◌}
use Rattle.std.specs.List.{before_first}
use Rattle.vg_num.specs.Number.{value_of}
use Rattle.vg_scan.specs.Lines.{part}
use Rattle.ver_text.specs.Names.{name_of}
use Rattle.ver_text.specs.declared.kind.Kind.TheVariants.{Identifier}
use Rattle.ver_syntax.specs.declared.row.Place.{Place}
use Rattle.ver_syntax.specs.declared.row.Place.TheVariants.{Start, Head, Ports, Declaration, Assignment, Instances, Pins, Connection}
use Rattle.ver_syntax.specs.declared.row.Row.{Row}
use Rattle.ver_syntax.specs.Grammar.{is}
use Rattle.ver_syntax.specs.Rows.{rows_of}

-- a token that begins something, with the tokens after it up to the next that does
pub record Section : Type 0 where
  pub head : Row
  pub body : List Row

-- the section that a token begins before others
abbrev pub section_before : (Row → Bool) → Row → List Row → Section
section_before begins r rows = record { head = r; body = before_first begins rows }

-- the sections of some tokens: none of those before the first that begins one is in any
unfoldable pub sections : (Row → Bool) → List Row → List Section
sections begins [] = []
sections begins (r ∷ rows) =
    if begins r then section_before begins r rows ∷ sections begins rows else sections begins rows

-- ---- tokens

-- the same place
abbrev pub is_place : Place → Place → Bool
is_place Start Start = true
is_place Head Head = true
is_place Ports Ports = true
is_place Declaration Declaration = true
is_place Assignment Assignment = true
is_place Instances Instances = true
is_place Pins Pins = true
is_place Connection Connection = true
is_place _ _ = false

-- a token stands in this
abbrev pub stands_in : Place → Row → Bool
stands_in place r = is_place place r.place

abbrev pub is_identifier : Row → Bool
is_identifier r = is Identifier r.kind

-- an identifier that stands in this
abbrev pub is_name_in : Place → Row → Bool
is_name_in place r = is_identifier r && stands_in place r

-- an identifier here is one of nets
abbrev pub is_net_place : Place → Bool
is_net_place Ports = true
is_net_place Declaration = true
is_net_place Assignment = true
is_net_place Connection = true
is_net_place _ = false

-- an identifier of a scalar or a vector
abbrev pub is_net_name : Row → Bool
is_net_name r = is_identifier r && is_net_place r.place

abbrev pub bytes_at : List ℕ → Row → List ℕ
bytes_at text r = part text r.from r.to

-- the name that an identifier gives
abbrev pub name_at : List ℕ → Row → List ℕ
name_at text r = name_of (bytes_at text r)

-- the number that digits write; one over 2^20, which is none of a bit, stands for 2^20 + 1
abbrev pub number_at : List ℕ → Row → ℕ
number_at text r = min (value_of (bytes_at text r)) (2 ^ 20 + 1)

-- ---- items

-- the head of a module, its items, and its end
abbrev pub items : List ℕ → List Section
items text = sections (stands_in Start) (rows_of text)

-- the instances of an item, each from its identifier on: only of an instantiation there are any
abbrev pub instances_in : Section → List Section
instances_in item = sections (is_name_in Instances) item.body

-- the connections of an instance, each from its pin's identifier on
abbrev pub pins_in : Section → List Section
pins_in instance = sections (is_name_in Pins) instance.body
