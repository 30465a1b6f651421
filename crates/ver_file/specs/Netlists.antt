-- The netlist that a module is. Source: IEEE Std 1364-2005, clauses 6.1 (continuous assignments) and 12.1.2
-- (instances), 12.3.6 (connections by name), 5.1.14 (concatenations).
use Rattle.std.specs.Prelude.{ℕ, Bool, ◌&&◌, List, [], ◌∷◌, map, find, Option, Some, None, option_map, unwrap_or, if◌then◌else◌}
use Rattle.std.specs.List.{flat_map}
use Rattle.name_tables.specs.Distinct.{number_in}
use Rattle.ver_text.specs.declared.kind.Kind.TheVariants.{EndModule, Semicolon}
use Rattle.ver_syntax.specs.declared.row.Place.TheVariants.{Head, Assignment}
use Rattle.ver_syntax.specs.declared.row.Row.{Row}
use Rattle.ver_syntax.specs.Grammar.{is}
use Rattle.ver_syntax.specs.Rows.{rows_of}
use Rattle.ver_module.specs.declared.range.Range.{Range}
use Rattle.ver_items.specs.declared.bits.Select.{Select}
use Rattle.ver_items.specs.declared.bits.Select.TheVariants.{Bit}
use Rattle.ver_module.specs.declared.link.Link.{Link}
use Rattle.ver_module.specs.declared.link.Link.TheVariants.{Open, One, Many}
use Rattle.ver_items.specs.Connections.{connection_of, expression_of, span_of}
use Rattle.ver_items.specs.Sections.{Section, section_before, sections, is_identifier, is_name_in, name_at, items, instances_in, pins_in}
use Rattle.ver_items.specs.Declarations.{declared_of, range_in}
use Rattle.ver_module.specs.Netlists.{Instance, Netlist, Pin, net_name}
use Rattle.ver_items.specs.Bits.{select_before, selected, is_single}
use Rattle.ver_file.specs.Nets.{nets_of, net_names}

-- ---- nets of expressions, by their numbers

-- the range of an identifier of a text
abbrev pub range_at : List ℕ → Row → Option Range
range_at text r = range_in (declared_of text) (name_at text r)

-- the number of a bit of an identifier of this name among the nets of a text, or of the identifier's one net
abbrev pub number_of_bit : List ℕ → List ℕ → Option ℕ → ℕ
number_of_bit text name bit = number_in (net_names text) (net_name name bit)

abbrev pub net_number : List ℕ → Row → Option ℕ → ℕ
net_number text r bit = number_of_bit text (name_at text r) bit

-- the nets that an identifier stands for, by what is selected of it
abbrev pub nets_named : List ℕ → Section → List ℕ
nets_named text s = map (net_number text s.head) (selected (select_before text s.body) (range_at text s.head))

-- the nets in an expression: each identifier with what follows it gives its own, and numbers give none
abbrev pub nets_in : List ℕ → List Row → List ℕ
nets_in text expression = flat_map (nets_named text) (sections is_identifier expression)

-- ---- connections

-- the identifiers in a pin's expression, each with what follows it
abbrev pub identifiers_in : Section → List Section
identifiers_in p = sections is_identifier (expression_of p)

-- the bit that is selected by its number, if one is
abbrev pub bit_in : Select → Option ℕ
bit_in (Bit k) = Some k
bit_in _ = None

-- this is an identifier, and with what follows it one net
abbrev pub is_one : List ℕ → Section → Bool
is_one text s = is_identifier s.head && is_single (select_before text s.body) (range_at text s.head)

-- that net
abbrev pub one_named : List ℕ → Section → ℕ
one_named text s = net_number text s.head (bit_in (select_before text s.body))

-- What a pin is linked to: nothing, where it is not connected; one net, where its expression is a scalar or a bit by
-- its number alone; else the nets in the expression, be it one or none.
abbrev pub link_of : List ℕ → List Row → Link
link_of text [] = Open
link_of text (r ∷ rows) =
    if is_one text (section_before is_identifier r rows)
    then One (one_named text (section_before is_identifier r rows))
    else Many (nets_in text (r ∷ rows))

-- ---- instances

abbrev pub pin_of : List ℕ → Section → Pin
pin_of text p =
    record { name = name_at text p.head; span = span_of (connection_of p); link = link_of text (expression_of p) }

-- the instance that is named here, of the cell that is named there
abbrev pub instance_of : List ℕ → Row → Section → Instance
instance_of text cell i =
    record { name = name_at text i.head; cell = name_at text cell; pins = map (pin_of text) (pins_in i) }

-- the instances of an item
abbrev pub instances_by : List ℕ → Section → List Instance
instances_by text item = map (instance_of text item.head) (instances_in item)

-- the instances of a text, in order
abbrev pub instances_of : List ℕ → List Instance
instances_of text = flat_map (instances_by text) (items text)

-- ---- the whole

-- the nets in the assignments of an item, on both sides: only a continuous assignment has any
abbrev pub assigned_by : List ℕ → Section → List ℕ
assigned_by text item = flat_map (nets_named text) (sections (is_name_in Assignment) item.body)

-- the nets in the assignments of a text
abbrev pub assigned_of : List ℕ → List ℕ
assigned_of text = flat_map (assigned_by text) (items text)

-- the name of a module
abbrev pub module_name : List ℕ → List ℕ
module_name text = unwrap_or (option_map (name_at text) (find (is_name_in Head) (rows_of text))) []

-- where the head of a module ends: after its first `;`
abbrev pub head_end : List ℕ → ℕ
head_end text = unwrap_or (option_map (λ r. r.to) (find (λ r. is Semicolon r.kind) (rows_of text))) 0

-- where its `endmodule` begins
abbrev pub end_at : List ℕ → ℕ
end_at text = unwrap_or (option_map (λ r. r.from) (find (λ r. is EndModule r.kind) (rows_of text))) 0

-- the netlist of a text
abbrev pub netlist_of : List ℕ → Netlist
netlist_of text = record {
  name = module_name text;
  nets = nets_of text;
  instances = instances_of text;
  assigned = assigned_of text;
  head_end = head_end text;
  end_at = end_at text;
}
