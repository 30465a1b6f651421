-- What a line states by itself: a row, or the fault of its words.
use Rattle.std.specs.Prelude.{ℕ, ◌^◌, ◌||◌, Bool, false, List, [], ◌∷◌, ℤ, pos, Option, Some, None, Result, Ok, Err, if◌then◌else◌, codes, refl}
use Rattle.std.specs.Str.{bytes_eq}
use Rattle.vg_num.specs.Number.{scaled, signed_scaled}
use Rattle.vg_num.specs.declared.fault.NumFault.{NumFault}
use Rattle.vg_scan.specs.Nodes.{port_of, inner_of, node_of}
use Rattle.vg_scan.specs.References.{is_reference}
use Rattle.vg_scan.specs.declared.chars.Chars.{Chars}
use Rattle.vg_cons.specs.declared.fault.ConsKind.{ConsKind}
use Rattle.vg_cons.specs.declared.fault.ConsKind.TheVariants.{Word, Number}
use Rattle.vg_cons.specs.Lines.{Line}
use Rattle.vg_scan.specs.declared.name.NodeName.{NodeName}

-- names are written with the divider `/`, the delimiter `:` and the bus delimiters `[` and `]`
abbrev pub CHARS : Chars
CHARS =
    record { divider = 47; delimiter = 58; bus_left = 91; bus_right = 93; divides = refl; delimits = refl; encloses = refl }

-- a point by its x and y, and a box by two corners that lie across from each other
abbrev pub Point : Type 0
Point = ℤ × ℤ

abbrev pub Box : Type 0
Box = Point × Point

-- times are in zeptoseconds, resistances in milliohms, capacitances in attofarads, coordinates in thousandths
pub data Statement : Type 0 where
  default : ℤ → Statement
  required : NodeName × ℤ → Statement
  arrival : NodeName × ℤ → Statement
  want : NodeName → Statement
  drive : List ℕ × (ℕ × ℤ) → Statement
  load : List ℕ × ℕ → Statement
  block : NodeName → Statement
  allow : NodeName × List (List ℕ) → Statement
  block_box : Box → Statement

abbrev pub or_word : {A : Type 0} → Option A → Result A ConsKind
or_word (Some name) = Ok name
or_word None = Err Word

-- the name that a word is: of a pin (a port or a node), of a port, of a node
-- no index of names is known: a word that begins with `*` is no name
unfoldable pub pin_in : List ℕ → Result NodeName ConsKind
pin_in word = if is_reference word then Err Word else or_word (node_of CHARS word)

unfoldable pub port_in : List ℕ → Result (List ℕ) ConsKind
port_in word = if is_reference word then Err Word else or_word (port_of CHARS word)

unfoldable pub inner_in : List ℕ → Result NodeName ConsKind
inner_in word = if is_reference word then Err Word else or_word (inner_of CHARS word)

abbrev pub or_number : {A : Type 0} → Result A NumFault → Result A ConsKind
or_number (Ok n) = Ok n
or_number (Err fault) = Err (Number fault)

-- picoseconds
unfoldable pub time_in : List ℕ → Result ℤ ConsKind
time_in word = or_number (signed_scaled (pos 9) (10 ^ 23) word)

-- ohms, or femtofarads
unfoldable pub thousandths_in : List ℕ → Result ℕ ConsKind
thousandths_in word = or_number (scaled (pos 3) (10 ^ 15) word)

-- coordinates
unfoldable pub coordinate_in : List ℕ → Result ℤ ConsKind
coordinate_in word = or_number (signed_scaled (pos 3) (10 ^ 23) word)

-- what is made of a part, or the part's fault
abbrev pub of_one : {A B : Type 0} → (A → B) → Result A ConsKind → Result B ConsKind
of_one make (Ok a) = Ok (make a)
of_one make (Err kind) = Err kind

-- two parts, or the fault of the first that has one
abbrev pub of_two : {A B : Type 0} → Result A ConsKind → Result B ConsKind → Result (A × B) ConsKind
of_two (Ok a) b = of_one (λ b. (a, b)) b
of_two (Err kind) b = Err kind

-- `default required T`
abbrev pub default_line : Line → Result Statement ConsKind
default_line (word ∷ time ∷ []) = if bytes_eq word (codes "required") then of_one default (time_in time) else Err Word
default_line _ = Err Word

-- `PIN T`
abbrev pub timed : Line → Result (NodeName × ℤ) ConsKind
timed (pin ∷ time ∷ []) = of_two (pin_in pin) (time_in time)
timed _ = Err Word

-- `want PIN inverted`
abbrev pub want_line : Line → Result Statement ConsKind
want_line (pin ∷ word ∷ []) = if bytes_eq word (codes "inverted") then of_one want (pin_in pin) else Err Word
want_line _ = Err Word

-- `drive PORT R K`
abbrev pub drive_line : Line → Result Statement ConsKind
drive_line (port ∷ r ∷ k ∷ []) = of_one drive (of_two (port_in port) (of_two (thousandths_in r) (time_in k)))
drive_line _ = Err Word

-- `load PORT C`
abbrev pub load_line : Line → Result Statement ConsKind
load_line (port ∷ c ∷ []) = of_one load (of_two (port_in port) (thousandths_in c))
load_line _ = Err Word

-- `block NODE`
abbrev pub block_line : Line → Result Statement ConsKind
block_line (node ∷ []) = of_one block (inner_in node)
block_line _ = Err Word

-- `allow NODE CELL ..`: a cell is a word as it stands
abbrev pub allow_line : Line → Result Statement ConsKind
allow_line (node ∷ cell ∷ cells) = of_one (λ n. allow (n, cell ∷ cells)) (inner_in node)
allow_line _ = Err Word

-- `X Y`
abbrev pub point_in : List ℕ → List ℕ → Result Point ConsKind
point_in x y = of_two (coordinate_in x) (coordinate_in y)

-- `block_box X1 Y1 X2 Y2`
abbrev pub box_line : Line → Result Statement ConsKind
box_line (x1 ∷ y1 ∷ x2 ∷ y2 ∷ []) = of_one block_box (of_two (point_in x1 y1) (point_in x2 y2))
box_line _ = Err Word

-- what a line states, by its first word
unfoldable pub statement_of : Line → Result Statement ConsKind
statement_of [] = Err Word
statement_of (first ∷ words) =
    if bytes_eq first (codes "default") then default_line words
    else (if bytes_eq first (codes "required") then of_one required (timed words)
    else (if bytes_eq first (codes "arrival") then of_one arrival (timed words)
    else (if bytes_eq first (codes "want") then want_line words
    else (if bytes_eq first (codes "drive") then drive_line words
    else (if bytes_eq first (codes "load") then load_line words
    else (if bytes_eq first (codes "block") then block_line words
    else (if bytes_eq first (codes "allow") then allow_line words
    else (if bytes_eq first (codes "block_box") then box_line words
    else Err Word))))))))

-- a line that only version 2 has
abbrev pub is_of_second : Line → Bool
is_of_second [] = false
is_of_second (first ∷ words) = bytes_eq first (codes "allow") || bytes_eq first (codes "block_box")
