-- What the pins of a text are linked to, by the names of nets: a net's number tells nothing of another text.
use Rattle.std.specs.Prelude.{◌≡◌, ℕ, List, [], ◌∷◌, map, Option, Some, None, option_and_then, slice_get, if◌then◌else◌}
use Rattle.std.specs.List.{flat_map}
use Rattle.ver_syntax.specs.declared.row.Row.{Row}
use Rattle.ver_items.specs.Bits.{select_before, selected}
use Rattle.ver_items.specs.Connections.{expression_of}
use Rattle.ver_items.specs.Declarations.{declared_of, range_in}
use Rattle.ver_items.specs.Sections.{Section, instances_in, is_identifier, items, name_at, pins_in, section_before, sections}
use Rattle.ver_module.specs.Netlists.{Net}
use Rattle.ver_file.specs.Netlists.{bit_in, is_one, range_at}
use Rattle.ver_net.specs.declared.pin_ref.PinRef.{PinRef}

-- A net by its identifier's name, and for a bit of a vector its number.
pub record NetName : Type 0 where
  pub base : List ℕ
  pub bit : Option ℕ

-- What a pin is linked to: nothing, one net, or the nets of another expression.
pub data NamedLink : Type 0 where
  nothing : NamedLink
  one : NetName → NamedLink
  several : List NetName → NamedLink

abbrev pub name_of_net : Net → NetName
name_of_net net = record { base = net.base; bit = net.bit }

-- ---- a text

abbrev pub named : List ℕ → Row → Option ℕ → NetName
named text r bit = record { base = name_at text r; bit = bit }

-- the nets that an identifier stands for, by what is selected of it
abbrev pub names_named : List ℕ → Section → List NetName
names_named text s = map (named text s.head) (selected (select_before text s.body) (range_at text s.head))

-- the nets in an expression
abbrev pub names_in : List ℕ → List Row → List NetName
names_in text expression = flat_map (names_named text) (sections is_identifier expression)

-- what a pin with this expression is linked to
abbrev pub named_link : List ℕ → List Row → NamedLink
named_link text [] = NamedLink.nothing
named_link text (r ∷ rows) =
    if is_one text (section_before is_identifier r rows)
    then NamedLink.one (named text r (bit_in (select_before text (section_before is_identifier r rows).body)))
    else NamedLink.several (names_in text (r ∷ rows))

abbrev pub link_at : List ℕ → Section → NamedLink
link_at text p = named_link text (expression_of p)

-- of each instance of an item, of each pin
abbrev pub links_by : List ℕ → Section → List (List NamedLink)
links_by text item = map (λ i. map (link_at text) (pins_in i)) (instances_in item)

-- of each instance of a text, of each pin
abbrev pub links_of : List ℕ → List (List NamedLink)
links_of text = flat_map (links_by text) (items text)

-- this is what a pin of a text is linked to
abbrev pub IsLinked : List ℕ → PinRef → NamedLink → Type 0
IsLinked text at link =
    option_and_then (λ links. slice_get links at.pin) (slice_get (links_of text) at.instance) ≡ Some link

-- ---- what is written

-- a net that is written without a bit is a scalar of the text
abbrev pub IsOneNet : List ℕ → Net → Type 0
IsOneNet text net = net.bit ≡ None → range_in (declared_of text) net.base ≡ None
