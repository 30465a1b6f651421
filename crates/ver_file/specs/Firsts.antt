-- The first places of flaws, as the code keeps them: for the functions between.
use Rattle.std.specs.Prelude.{ℕ, min, nat_le, List, [], map, filter, Option, Some, None, fold, if◌then◌else◌}
use Rattle.name_tables.specs.Distinct.{with_name}
use Rattle.ver_syntax.specs.Syntax.{line_at}
use Rattle.ver_file.specs.declared.first.Flaw.{Flaw}
use Rattle.ver_syntax.specs.declared.row.Row.{Row}
use Rattle.ver_file.specs.Flaws.{Named, connection_flaws, direction_flaws, named, port_flaws, range_flaws, repeated}
use Rattle.std.specs.List.{flat_map}
use Rattle.ver_syntax.specs.declared.row.Place.TheVariants.{Ports}
use Rattle.ver_items.specs.declared.heading.Heading.{Heading}
use Rattle.ver_items.specs.Declarations.{Declared, begins_declaration, declare, declared_by, declared_in, declared_of}
use Rattle.ver_items.specs.Sections.{Section, instances_in, is_name_in, is_net_name, name_at, sections}
use Rattle.ver_syntax.specs.declared.fault.VerKind.{VerKind}
use Rattle.vg_scan.specs.declared.fault.LineFault.{LineFault}

-- the earlier of two places, of which the first may be none
abbrev pub earlier : Option ℕ → ℕ → Option ℕ
earlier None place = Some place
earlier (Some first) place = Some (min first place)

-- the first of these places, or the one before them
abbrev pub first_of : Option ℕ → List ℕ → Option ℕ
first_of first places = fold earlier first places

-- the first of two flaws, of which the first may be none
abbrev pub sooner : Option Flaw → Flaw → Flaw
sooner None flaw = flaw
sooner (Some first) flaw = if nat_le first.place flaw.place then first else flaw

-- the same, of one and a flaw of this kind at a place, where they are there
abbrev pub with_flaw : Option Flaw → VerKind → Option ℕ → Option Flaw
with_flaw first kind None = first
with_flaw first kind (Some place) = Some (sooner first (record { place = place; kind = kind }))

-- the fault that is told of a flaw
abbrev pub told : List ℕ → Flaw → LineFault VerKind
told text flaw = record { kind = flaw.kind; line = line_at text flaw.place }

-- the name that an identifier gives
abbrev pub named_at : List ℕ → Row → Named
named_at text r = record { place = r.from; name = name_at text r }

-- the name with which a section begins
abbrev pub named_by : List ℕ → Section → List ℕ
named_by text s = name_at text s.head

-- these names, and those with which sections begin
abbrev pub with_named : List ℕ → List (List ℕ) → List Section → List (List ℕ)
with_named text names ss = fold with_name names (map (named_by text) ss)

-- the sections that give these names or one another's again
abbrev pub named_twice : List ℕ → List (List ℕ) → List Section → List ℕ
named_twice text names ss = repeated names (map (named text) ss)

-- the declared identifiers among some tokens
abbrev pub declared_among : List ℕ → List Row → List Declared
declared_among text rows = flat_map (declared_in text) (sections begins_declaration rows)

-- the identifiers that some tokens of a declaration declare
abbrev pub declared_at : List ℕ → Heading → List Row → List Declared
declared_at text heading rows = map (declare text heading) (filter is_net_name rows)

-- the same, where this is what the declaration says that they stand in, if they stand in one
abbrev pub declared_under : List ℕ → Option Heading → List Row → List Declared
declared_under text None rows = []
declared_under text (Some heading) rows = declared_at text heading rows

-- the flaws of the ranges and of the directions of some declared identifiers
abbrev pub other_ranges : List ℕ → List Declared → List ℕ
other_ranges text declared = flat_map (range_flaws (declared_of text)) declared

abbrev pub other_directions : List ℕ → List Declared → List ℕ
other_directions text declared = flat_map (direction_flaws (declared_of text)) declared

-- the flaws of the ports among some tokens
abbrev pub port_flaws_among : List ℕ → List Row → List ℕ
port_flaws_among text rows = flat_map (port_flaws text) (filter (is_name_in Ports) rows)

-- the flaws in the connections of an item's instances
abbrev pub connection_flaws_in : List ℕ → Section → List ℕ
connection_flaws_in text item = flat_map (connection_flaws text) (instances_in item)

-- ---- of some items

-- the declared identifiers that have another range than that of their first declaration
abbrev pub range_flaws_in : List ℕ → List Section → List ℕ
range_flaws_in text items = other_ranges text (flat_map (declared_by text) items)

-- these names, and those of the instances
abbrev pub with_instances : List ℕ → List (List ℕ) → List Section → List (List ℕ)
with_instances text names items = with_named text names (flat_map instances_in items)

-- the instances that give these names or one another's again
abbrev pub twice_in : List ℕ → List (List ℕ) → List Section → List ℕ
twice_in text names items = named_twice text names (flat_map instances_in items)
