-- The library that a text denotes, and what it says of pins.
use Rattle.std.specs.Prelude.{◌≡◌, ◌≢◌, ℕ, List, [], Option, Some, find, unwrap_or, option_map, option_and_then, AllPairs}
use Rattle.std.specs.List.{All}
use Rattle.std.specs.Str.{bytes_eq}
use Rattle.vg_scan.specs.Comments.{without_comments}
use Rattle.vg_scan.specs.declared.comments.Comments.TheVariants.{Liberty}
use Rattle.lib_text.specs.Groups.{Group, library_of}
use Rattle.lib_text.specs.Joined.{joined}
use Rattle.lib_text.specs.Syntax.{IsLibrary}
use Rattle.lib_cells.specs.CellInfos.{CellInfo}
use Rattle.lib_cells.specs.PinInfos.{PinInfo}
use Rattle.lib_linear.specs.declared.repeater.Repeater.{Repeater}
use Rattle.lib_cells.specs.Cells.{cell_groups, cells_of}
use Rattle.lib_cells.specs.Flaws.{header_flaws, value_flaws}
use Rattle.lib_linear.specs.Repeaters.{AreRepeatersOf}
use Rattle.lib_cells.specs.Units.{units_of}

-- the cells of a library in the order of its text, and its repeaters by rising resistance, then by name
pub record Cells : Type 0 where
  pub cells : List CellInfo
  pub repeaters : List Repeater

-- a text without comments, its lines joined where they go on
abbrev pub plain : List ℕ → List ℕ
plain bytes = joined (without_comments Liberty bytes)

-- the library of a text
abbrev pub library_in_bytes : List ℕ → Group
library_in_bytes bytes = library_of (plain bytes)

-- a library's statements have no flaw, and say this
pub record Says (library : Group) (said : Cells) : Type 0 where
  pub header : header_flaws library ≡ []
  pub values : value_flaws (units_of library) library ≡ []
  pub cells : said.cells ≡ cells_of (units_of library) library
  pub repeaters : AreRepeatersOf (units_of library) (cell_groups library) said.repeaters

-- a text is a library without a fault, and denotes this one
pub record Denotes (bytes : List ℕ) (said : Cells) : Type 0 where
  pub syntax : IsLibrary (plain bytes)
  pub says : Says (library_in_bytes bytes) said

-- the first pin of this name of the cell of this name
abbrev pub pin_in : Cells → List ℕ → List ℕ → Option PinInfo
pin_in said cell pin =
    option_and_then (λ info. find (λ p. bytes_eq pin p.name) info.pins)
    (find (λ info. bytes_eq cell info.name) said.cells)

-- its capacitance (aF)
abbrev pub cap_of : Cells → List ℕ → List ℕ → Option ℕ
cap_of said cell pin = option_and_then (λ p. p.cap) (pin_in said cell pin)

-- its intrinsic delay (zs) and its resistance (mΩ)
abbrev pub drive_in : Cells → List ℕ → List ℕ → Option (ℕ × ℕ)
drive_in said cell pin = option_and_then (λ p. p.drive) (pin_in said cell pin)

-- the greatest load that it may charge (aF)
abbrev pub limit_of : Cells → List ℕ → List ℕ → Option ℕ
limit_of said cell pin = option_and_then (λ p. p.max) (pin_in said cell pin)

-- the pins that it names as related
abbrev pub related_to : Cells → List ℕ → List ℕ → List (List ℕ)
related_to said cell pin = unwrap_or (option_map (λ p. p.related) (pin_in said cell pin)) []

-- what a library says of the pins of a repeater is what the repeater does
pub record IsOfCells (said : Cells) (r : Repeater) : Type 0 where
  pub input : cap_of said r.cell r.input ≡ Some r.rep.cin
  pub output : drive_in said r.cell r.output ≡ Some (r.rep.k, r.rep.r)
  pub limit : limit_of said r.cell r.output ≡ r.rep.limit
  pub differ : r.input ≢ r.output

-- this is so of all its repeaters, and no two of them are of one cell
pub record AreOfCells (said : Cells) : Type 0 where
  pub each : All (IsOfCells said) said.repeaters
  pub once : AllPairs (λ a b. a.cell ≢ b.cell) said.repeaters
