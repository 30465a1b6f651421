-- Laws of repeaters: what they are is determined.
use Rattle.std.specs.Prelude.{◌≡◌, ◌≢◌, ℕ, List, [], map, AllPairs}
use Rattle.lib_text.specs.Groups.{Group}
use Rattle.lib_linear.specs.declared.repeater.Repeater.{Repeater}
use Rattle.lib_cells.specs.declared.units.Units.{Units}
use Rattle.lib_cells.specs.Cells.{name_of}
use Rattle.lib_cells.specs.Flaws.{twice_flaws}
use Rattle.lib_linear.specs.Libraries.{Cells, Denotes}
use Rattle.lib_linear.specs.Repeaters.{AreRepeaters, AreRepeatersOf, IsOver, IsRepeater}

-- a cell is one repeater at most
abbrev pub OneRepeater : Type 0
OneRepeater =
    (units : Units) (cell : Group) (a b : Repeater) → IsRepeater units cell a → IsRepeater units cell b → a ≡ b

-- the repeaters among some cells are one list
abbrev pub OneList : Type 0
OneList = (units : Units) (cells : List Group) (a b : List Repeater) → AreRepeaters units cells a
    → AreRepeaters units cells b → a ≡ b

-- the names of these cells differ
abbrev pub AreDistinct : List Group → Type 0
AreDistinct cells = AllPairs (λ a b. a ≢ b) (map name_of cells)

-- where no cell is given twice, the names of all differ
abbrev pub NoneTwice : Type 0
NoneTwice = (cells : List Group) → twice_flaws [] cells ≡ [] → AreDistinct cells

-- where the names of the cells differ, their repeaters in order are one list
abbrev pub OneOrder : Type 0
OneOrder =
    (units : Units) (cells : List Group) (a b : List Repeater)
    → AreDistinct cells → AreRepeatersOf units cells a → AreRepeatersOf units cells b → a ≡ b

-- cells that have their list of repeaters have no 257th repeater
abbrev pub NotOver : Type 0
NotOver = (units : Units) (cells : List Group) (reps : List Repeater) (place : ℕ) → AreRepeatersOf units cells reps
    → IsOver units cells place → ⊥

-- one cell is the 257th repeater at most
abbrev pub OnePlace : Type 0
OnePlace = (units : Units) (cells : List Group) (p q : ℕ) → IsOver units cells p → IsOver units cells q → p ≡ q

-- a text denotes one library at most
abbrev pub OneLibrary : Type 0
OneLibrary = (bytes : List ℕ) (a b : Cells) → Denotes bytes a → Denotes bytes b → a ≡ b
