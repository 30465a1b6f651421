-- The cells of a library that are repeaters. Source: Liberty User Guide, Synopsys, on the linear delay model; van
-- Ginneken 1990 and Lillis, Cheng and Lin 1996 on buffers and inverters.
use Rattle.std.specs.Prelude.{◌≡◌, ◌≢◌, ◌⊎◌, ℕ, ◌≤◌, ◌^◌, Bool, true, false, ◌&&◌, nat_lt, is_some, List, [], ◌∷◌, ◌++◌, length, codes, Some, find, AllPairs, IsPermutation}
use Rattle.std.specs.List.{list_all}
use Rattle.std.specs.Str.{bytes_eq}
use Rattle.std.specs.declared.cmp.Ordering.{Ordering}
use Rattle.std.specs.Ordering.{is_lt, nat_cmp, on, then_cmp}
use Rattle.std.specs.Cmp.Lexicographic.{slice_cmp}
use Rattle.elmore.specs.declared.rep.Rep.{Rep}
use Rattle.lib_text.specs.Groups.{Group, groups_in, value_in}
use Rattle.lib_cells.specs.declared.pin.PinDir.TheVariants.{Input, Output}
use Rattle.lib_cells.specs.PinInfos.{PinInfo}
use Rattle.lib_linear.specs.declared.repeater.Repeater.{Repeater}
use Rattle.lib_cells.specs.declared.units.Units.{Units}
use Rattle.lib_cells.specs.Cells.{area_of, direction_of, is_output, name_of, pin_groups, pins_of, related_in, timings}
use Rattle.lib_cells.specs.Function.{ReducesTo}
use Rattle.lib_cells.specs.Units.{resistance_places, time_places}
use Rattle.lib_cells.specs.Values.{given, says}

-- a timing group gives all four values
abbrev pub is_full : Units → Group → Bool
is_full units timing =
    (is_some (given timing (codes "intrinsic_rise") (time_places units))
    && is_some (given timing (codes "intrinsic_fall") (time_places units)))
    && (is_some (given timing (codes "rise_resistance") (resistance_places units))
    && is_some (given timing (codes "fall_resistance") (resistance_places units)))

-- it names this pin as related, and no other
abbrev pub is_related : List ℕ → Group → Bool
is_related input timing = nat_lt 0 (length (related_in timing)) && list_all (bytes_eq input) (related_in timing)

-- it is the whole arc from this pin
abbrev pub is_arc : Units → List ℕ → Group → Bool
is_arc units input timing = is_related input timing && is_full units timing

-- a pin has timing groups, and each of them is the whole arc from this pin
abbrev pub is_timed : Units → List ℕ → Group → Bool
is_timed units input pin = nat_lt 0 (length (timings pin)) && list_all (is_arc units input) (timings pin)

-- a cell has no bus, no bundle, and is not kept from use
pub record IsUsable (cell : Group) : Type 0 where
  pub no_bus : groups_in cell (codes "bus") ≡ []
  pub no_bundle : groups_in cell (codes "bundle") ≡ []
  pub used : says cell (codes "dont_use") (codes "true") ≡ false

-- two pins are an input and an output, of different names
pub record AreInOut (input output : PinInfo) : Type 0 where
  pub is_in : input.direction ≡ Input
  pub is_out : output.direction ≡ Output
  pub differ : input.name ≢ output.name

-- these are all pins of a cell
pub record AreTwoPins (pins : List PinInfo) (input output : PinInfo) : Type 0 where
  pub two : (pins ≡ input ∷ output ∷ []) ⊎ (pins ≡ output ∷ input ∷ [])
  pub ways : AreInOut input output

-- the function of a pin is an input, inverted or not
pub record IsFunction (pin : Group) (input : List ℕ) (inverted : Bool) : Type 0 where
  pub text : List ℕ
  pub given : value_in pin (codes "function") ≡ Some text
  pub reduces : ReducesTo text input inverted

-- the output of a cell follows an input, inverted or not: by its function, and by its timing groups
pub record Follows (units : Units) (cell : Group) (input : List ℕ) (inverted : Bool) : Type 0 where
  pub output : Group
  pub group : find (λ pin. is_output (direction_of pin)) (pin_groups cell) ≡ Some output
  pub function : IsFunction output input inverted
  pub timed : is_timed units input output ≡ true

-- a delay, a resistance and a cost are within what is computed with
pub record AreSmall (delay resistance cost : ℕ) : Type 0 where
  pub small_delay : delay ≤ 10 ^ 18
  pub small_resistance : resistance ≤ 10 ^ 9
  pub small_cost : cost ≤ 10 ^ 12

-- what a cell does to a net between an input and an output
pub record IsRep (units : Units) (cell : Group) (input output : PinInfo) (rep : Rep) : Type 0 where
  pub cin : input.cap ≡ Some rep.cin
  pub follows : Follows units cell input.name rep.inverts
  pub drive : output.drive ≡ Some (rep.k, rep.r)
  pub limit : rep.limit ≡ output.max
  pub cost : rep.cost ≡ area_of cell
  pub small : AreSmall rep.k rep.r rep.cost

-- a cell is a repeater between these pins, and does this to a net
pub record ArePartsOf (units : Units) (cell : Group) (input output : PinInfo) (rep : Rep) : Type 0 where
  pub usable : IsUsable cell
  pub pins : AreTwoPins (pins_of units cell) input output
  pub does : IsRep units cell input output rep

-- A cell is a repeater, and this one, where all of this holds.
pub record IsRepeater (units : Units) (cell : Group) (r : Repeater) : Type 0 where
  pub input : PinInfo
  pub output : PinInfo
  pub parts : ArePartsOf units cell input output r.rep
  pub cell_name : r.cell ≡ name_of cell
  pub input_name : r.input ≡ input.name
  pub output_name : r.output ≡ output.name

-- a cell is no repeater
abbrev pub IsNoRepeater : Units → Group → Type 0
IsNoRepeater units cell = (r : Repeater) → IsRepeater units cell r → ⊥

-- these are the repeaters among some cells, in the order of the cells
pub data AreRepeaters (units : Units) : List Group → List Repeater → Type 0 where
  no_cell : AreRepeaters units [] []
  taken : {cell : Group} {cells : List Group} {r : Repeater} {reps : List Repeater}
      → IsRepeater units cell r → AreRepeaters units cells reps → AreRepeaters units (cell ∷ cells) (r ∷ reps)
  passed : {cell : Group} {cells : List Group} {reps : List Repeater}
      → IsNoRepeater units cell → AreRepeaters units cells reps → AreRepeaters units (cell ∷ cells) reps

-- the order of two repeaters: by resistance, then by the bytes of their cells' names
abbrev pub rank_cmp : Repeater → Repeater → Ordering
rank_cmp = then_cmp (on (λ r. r.rep.r) nat_cmp) (on (λ r. r.cell) (slice_cmp nat_cmp))

-- a repeater comes before another one
abbrev pub comes_before : Repeater → Repeater → Bool
comes_before a b = is_lt (rank_cmp a b)

-- the same repeaters, by rising resistance, then by name
pub record IsInOrder (found ordered : List Repeater) : Type 0 where
  pub same : IsPermutation found ordered
  pub rising : AllPairs (λ a b. comes_before b a ≡ false) ordered

-- the repeaters of a library
pub record AreRepeatersOf (units : Units) (cells : List Group) (ordered : List Repeater) : Type 0 where
  pub found : List Repeater
  pub are : AreRepeaters units cells found
  pub few : length found ≤ 256
  pub order : IsInOrder found ordered

-- a cell is the 257th repeater
pub record IsOver (units : Units) (cells : List Group) (place : ℕ) : Type 0 where
  pub before : List Group
  pub cell : Group
  pub after : List Group
  pub found : List Repeater
  pub repeater : Repeater
  pub cut : cells ≡ before ++ cell ∷ after
  pub are : AreRepeaters units before found
  pub full : length found ≡ 256
  pub one_more : IsRepeater units cell repeater
  pub here : place ≡ cell.head.name
