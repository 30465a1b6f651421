-- Nets and instances, as a module keeps them: for the functions between.
use Rattle.std.specs.Prelude.{◌≡◌, ℕ, min, ◌+◌, ◌<◌, ◌≤◌, ◌^◌, List, [], ◌∷◌, Option, None, Some, map, length, slice_get, slice_index_or, take, IfSome, ⊤}
use Rattle.std.specs.List.{All, between}
use Rattle.name_tables.specs.NameTables.{AreDistinct}
use Rattle.ver_module.specs.declared.net.Identifier.{Identifier}
use Rattle.ver_module.specs.declared.instances.InstanceRow.{InstanceRow}
use Rattle.ver_module.specs.declared.instances.PinRow.{PinRow}
use Rattle.ver_module.specs.declared.link.Link.{Link}
use Rattle.ver_module.specs.declared.link.Link.TheVariants.{Open, One, Many}
use Rattle.ver_module.specs.declared.link.LinkRow.{LinkRow}
use Rattle.ver_module.specs.declared.link.LinkRow.TheVariants.{Open as OpenRow, One as OneRow, Many as ManyRow}
use Rattle.ver_module.specs.Netlists.{Instance, Pin}
use Rattle.ver_module.specs.Ranges.{bits_of}

-- ---- nets, by their identifiers

-- how many nets identifiers have
unfoldable pub count_in : List Identifier → ℕ
count_in [] = 0
count_in (identifier ∷ more) = length (bits_of identifier.range) + count_in more

-- the number of the first net of each of these identifiers, where so many nets stand before them
unfoldable pub firsts_of : ℕ → List Identifier → List ℕ
firsts_of n [] = []
firsts_of n (identifier ∷ more) = n ∷ firsts_of (n + length (bits_of identifier.range)) more

-- the bounds of an identifier, if it is a vector, are below 2^32
abbrev pub IsBounded : Identifier → Type 0
IsBounded identifier = IfSome identifier.range (λ range. (range.left < 2 ^ 32) × (range.right < 2 ^ 32))

-- these are identifiers of distinct names, with the numbers of their first nets and how many nets they have
pub record AreNets (names : List (List ℕ)) (identifiers : List Identifier) (firsts : List ℕ) (count : ℕ) : Type 0 where
  pub distinct : AreDistinct names
  pub named : length identifiers ≡ length names
  pub bounded : All IsBounded identifiers
  pub numbers : firsts ≡ firsts_of 0 identifiers
  pub counts : count ≡ count_in identifiers
  pub few : count < 2 ^ 32

-- the net of this number is this one of the identifier at a place
pub record IsPlace (identifiers : List Identifier) (id at place : ℕ) (identifier : Identifier) : Type 0 where
  pub is : slice_get identifiers at ≡ Some identifier
  pub within : place < length (bits_of identifier.range)
  pub number : id ≡ count_in (take at identifiers) + place

-- the earlier of two nets, where they are there
abbrev pub earlier : Option ℕ → Option ℕ → Option ℕ
earlier None other = other
earlier (Some one) None = Some one
earlier (Some one) (Some other) = Some (min one other)

-- ---- instances

-- a link, by the place of its nets among those of links to several
abbrev pub link_with : List (List ℕ) → LinkRow → Link
link_with many OpenRow = Open
link_with many (OneRow net) = One net
link_with many (ManyRow at) = Many (slice_index_or many at [])

-- the nets of a link to several are among these
abbrev pub IsKept : List (List ℕ) → LinkRow → Type 0
IsKept many OpenRow = ⊤
IsKept many (OneRow net) = ⊤
IsKept many (ManyRow at) = at < length many

-- the nets of a link, where it is one to several
abbrev pub several : Link → List (List ℕ)
several Open = []
several (One net) = []
several (Many nets) = nets ∷ []

-- a pin, by the number of its name and the place of its nets
abbrev pub pin_with : List (List ℕ) → List (List ℕ) → PinRow → Pin
pin_with names many row =
    record { name = slice_index_or names row.name []; span = record { from = row.from; to = row.to }; link = link_with many row.link }

-- the name of a pin is among these names, and the nets of its link among these nets
abbrev pub IsPinRow : List (List ℕ) → List (List ℕ) → PinRow → Type 0
IsPinRow names many row = (row.name < length names) × IsKept many row.link

-- the tables of names, the nets of links to several, and the pins of all instances
pub record Tables : Type 0 where
  pub cells : List (List ℕ)
  pub pin_names : List (List ℕ)
  pub many : List (List ℕ)
  pub pins : List PinRow

-- where the pins before some instances end: where those of the first begin, else where all end
abbrev pub pins_end : ℕ → List InstanceRow → ℕ
pins_end all [] = all
pins_end all (row ∷ rows) = row.pins

-- an instance of this name, whose pins end here
abbrev pub instance_with : Tables → ℕ → List ℕ → InstanceRow → Instance
instance_with tables end name row = record {
  name = name;
  cell = slice_index_or tables.cells row.cell [];
  pins = map (pin_with tables.pin_names tables.many) (between row.pins end tables.pins);
}

-- the instances of these names
unfoldable pub instances_with : Tables → List (List ℕ) → List InstanceRow → List Instance
instances_with tables [] rows = []
instances_with tables (name ∷ names) [] = []
instances_with tables (name ∷ names) (row ∷ rows) =
    instance_with tables (pins_end (length tables.pins) rows) name row ∷ instances_with tables names rows

-- the pins of instances stand one after another
unfoldable pub StandIn : Tables → List InstanceRow → Type 0
StandIn tables [] = ⊤
StandIn tables (row ∷ rows) =
    (row.cell < length tables.cells) × (row.pins ≤ pins_end (length tables.pins) rows) × StandIn tables rows

-- these rows are instances of these names
pub record AreInstances (tables : Tables) (names : List (List ℕ)) (rows : List InstanceRow) : Type 0 where
  pub count : length names ≡ length rows
  pub stand : StandIn tables rows
  pub kept : All (IsPinRow tables.pin_names tables.many) tables.pins
  pub few : length rows < 2 ^ 32
  pub few_pins : length tables.pins < 2 ^ 32
