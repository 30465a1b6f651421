-- The pins of a cell as rows of a table: what the pins of a group share stands once.
use Rattle.std.specs.Prelude.{◌≡◌, ℕ, ◌<◌, List, [], ◌∷◌, length, slice_get, slice_index_or, None}
use Rattle.std.specs.List.{All, position}
use Rattle.std.specs.Option.{option_and_then}
use Rattle.std.specs.Str.{bytes_eq}
use Rattle.name_tables.specs.Distinct.{number_of}
use Rattle.lib_cells.specs.PinInfos.{PinInfo}
use Rattle.lib_cells.specs.declared.first_places.FirstPlaces.{FirstPlaces}
use Rattle.lib_cells.specs.declared.pin.PinDir.TheVariants.{Unstated}
use Rattle.lib_cells.specs.declared.pin.PinGroup.{PinGroup}
use Rattle.lib_cells.specs.declared.pin_rows.PinTable.{PinTable}

-- a pin of a group
abbrev pub named : PinGroup → List ℕ → PinInfo
named group name = record {
  name = name;
  direction = group.direction;
  cap = group.cap;
  drive = group.drive;
  max = group.max;
  related = group.related;
}

-- a group that says nothing
abbrev pub NO_GROUP : PinGroup
NO_GROUP = record { direction = Unstated; cap = None; drive = None; max = None; related = [] }

-- the group of a number
abbrev pub group_at : List PinGroup → ℕ → PinGroup
group_at groups number = slice_index_or groups number NO_GROUP

-- the pins of these names, where these are the numbers of their groups
unfoldable pub pins_in : List PinGroup → List (List ℕ) → List ℕ → List PinInfo
pins_in groups [] numbers = []
pins_in groups (name ∷ names) [] = []
pins_in groups (name ∷ names) (number ∷ numbers) = named (group_at groups number) name ∷ pins_in groups names numbers

-- the pins of a table
abbrev pub pins_by : PinTable → List PinInfo
pins_by table = pins_in table.groups.items table.names table.numbers.items

-- each pin of a table has the number of a group that is there
pub record IsPinTable (table : PinTable) : Type 0 where
  pub one_each : length table.numbers.items ≡ length table.names
  pub within : All (λ number. number < length table.groups.items) table.numbers.items

-- these are the places where each of some names comes first among them
pub record AreFirst (names : List (List ℕ)) (first : FirstPlaces) : Type 0 where
  pub one_each : length first.places.items ≡ length first.names
  pub find : (name : List ℕ)
      → position (bytes_eq name) names ≡ option_and_then (slice_get first.places.items) (number_of first.names name)
