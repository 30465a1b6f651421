-- What a library says of the pins of its repeaters.
use Rattle.std.proofs.Common.{◌≡◌, ◌≢◌, ℕ, zero, suc, inl, inr, Bool, true, false, List, [], ◌∷◌, map, find, refl, sym, ap, ◌∙◌, arith, get_or, Some, option_and_then}
use Rattle.std.specs.Prelude.{AllPairs}
use Rattle.std.specs.List.{All, Contains}
use Rattle.std.specs.Str.{bytes_eq}
use Rattle.std.proofs.lemmas.List.{get_or-map, length-map}
use Rattle.std.proofs.lemmas.List.Elements.{All-cons, All-nil}
use Rattle.std.proofs.lemmas.List.Sorted.{All-permutation}
use Rattle.std.proofs.lemmas.Slice.Eq.{bytes_eq-Decides}
use Rattle.lib_text.specs.Groups.{Group}
use Rattle.lib_cells.specs.CellInfos.{CellInfo}
use Rattle.lib_cells.specs.PinInfos.{PinInfo}
use Rattle.lib_cells.specs.declared.units.Units.{Units}
use Rattle.lib_cells.specs.Cells.{cell_groups, cell_info, cells_of, name_of, pins_of}
use Rattle.lib_cells.specs.Flaws.{header_flaws, value_flaws}
use Rattle.lib_cells.specs.Units.{units_of}
use Rattle.lib_linear.specs.declared.repeater.Repeater.{Repeater}
use Rattle.lib_linear.specs.Libraries.{Cells, pin_in, IsOfCells, AreOfCells, Says}
use Rattle.lib_linear.specs.Repeaters.{AreRepeaters, AreRepeatersOf, AreTwoPins, IsRepeater}
use Rattle.lib_linear.specs.Repeaters.AreRepeaters.{no_cell, taken, passed}
use Rattle.lib_linear.specs.RepeaterLaws.{AreDistinct}
use Rattle.lib_linear.proofs.RepeaterOrder.{found_distinct, ordered_distinct}
use Rattle.name_tables.proofs.NameTableLemmas.{eq_no}

same : (a : List ℕ) → bytes_eq a a ≡ true
same a = (bytes_eq-Decides a a).1 refl

-- a repeater is of a cell of the list
abbrev IsAmong : Units → List Group → Repeater → Type 0
IsAmong units cells r = (cell : Group) × Contains cells cell × IsRepeater units cell r

one_more : (units : Units) (c : Group) (cells : List Group) (r : Repeater) → IsAmong units cells r → IsAmong units (c ∷ cells) r
one_more units c cells r (cell, (k, k_n, is), rep) = (cell, (suc k, omega arith, is), rep)

from_cells : (units : Units) {cells : List Group} {found : List Repeater} → AreRepeaters units cells found → All (IsAmong units cells) found
from_cells units no_cell = All-nil (IsAmong units [])
from_cells units (taken {cell} {cells} {r} {reps} is f) =
    All-cons (IsAmong units (cell ∷ cells)) r reps (cell, (0, omega arith, refl), is) (λ k d k_n. one_more units cell cells (get_or reps k d) (from_cells units f k d k_n))
from_cells units (passed {cell} {cells} {reps} out f) = λ k d k_n. one_more units cell cells (get_or reps k d) (from_cells units f k d k_n)

-- ---- look-ups

find_here : {X : Type 0} (p : X → Bool) (x : X) (xs : List X) → p x ≡ true → find p (x ∷ xs) ≡ Some x
find_here p x xs e = rw e refl

find_later : {X : Type 0} (p : X → Bool) (x : X) (xs : List X) → p x ≡ false → find p (x ∷ xs) ≡ find p xs
find_later p x xs e = rw e refl

module _ (units : Units) (name : List ℕ) where
  abbrev has_name : CellInfo → Bool
  has_name info = bytes_eq name info.name

  -- the cell of a name, where names differ
  cell_found : (cells : List Group) (cell : Group) → AreDistinct cells → Contains cells cell → name ≡ name_of cell
      → find has_name (map (cell_info units) cells) ≡ Some (cell_info units cell)
  cell_found [] cell h (k, k_n, is) e = absurd (omega arith)
  cell_found (c ∷ cells) cell h (zero, k_n, is) e =
      let first : c ≡ cell = is in
      find_here has_name (cell_info units c) (map (cell_info units) cells) (ap (λ n. bytes_eq n (name_of c)) (e ∙ ap name_of (sym first)) ∙ same (name_of c))
      ∙ ap (λ g. Some (cell_info units g)) first
  cell_found (c ∷ cells) cell h (suc k, k_n, is) e =
      find_later has_name (cell_info units c) (map (cell_info units) cells) (eq_no name (name_of c) (λ s. other (s ∙ e)))
      ∙ cell_found cells cell (λ i j d i_j j_n. h (suc i) (suc j) d (omega arith) (omega arith)) (k, omega arith, is) e
    where
      other : name_of c ≢ name_of cell
      other s =
          h 0 (suc k) (name_of cell) (omega arith) (omega (arith, length-map cells name_of))
          (s ∙ sym (get_or-map name_of cells k cell (name_of cell) (omega arith) ∙ ap name_of is))

-- ---- pins

abbrev is_named : List ℕ → PinInfo → Bool
is_named name p = bytes_eq name p.name

first_pin : (p q : PinInfo) → find (is_named p.name) (p ∷ q ∷ []) ≡ Some p
first_pin p q = find_here (is_named p.name) p (q ∷ []) (same p.name)

second_pin : (p q : PinInfo) → p.name ≢ q.name → find (is_named q.name) (p ∷ q ∷ []) ≡ Some q
second_pin p q differ =
    find_later (is_named q.name) p (q ∷ []) (eq_no q.name p.name differ)
    ∙ find_here (is_named q.name) q [] (same q.name)

-- the input and the output of two pins, by their names
two_found : (pins : List PinInfo) (input output : PinInfo) → AreTwoPins pins input output
    → (find (is_named input.name) pins ≡ Some input) × (find (is_named output.name) pins ≡ Some output)
two_found pins input output two =
    elim two.two as (λ _. (find (is_named input.name) pins ≡ Some input) × (find (is_named output.name) pins ≡ Some output)) [
      | inl e ↦ (ap (find (is_named input.name)) e ∙ first_pin input output, ap (find (is_named output.name)) e ∙ second_pin input output two.ways.differ)
      | inr e ↦
          (ap (find (is_named input.name)) e ∙ second_pin output input (λ s. two.ways.differ (sym s)), ap (find (is_named output.name)) e ∙ first_pin output input)
    ]

-- a pin of a repeater in the library
pin_found : (units : Units) (cells : List Group) (said : Cells) (cell : Group) (name pin other : List ℕ) (info : PinInfo)
    → said.cells ≡ map (cell_info units) cells → AreDistinct cells → Contains cells cell → name ≡ name_of cell → pin ≡ other
    → find (is_named other) (pins_of units cell) ≡ Some info → pin_in said name pin ≡ Some info
pin_found units cells said cell name pin other info e h among is_name is_pin found =
    ap (λ cs. option_and_then (λ (i : CellInfo). find (is_named pin) i.pins) (find (λ (i : CellInfo). bytes_eq name i.name) cs)) e
    ∙ ap (option_and_then (λ (i : CellInfo). find (is_named pin) i.pins)) (cell_found units name cells cell h among is_name)
    ∙ ap (λ n. find (is_named n) (pins_of units cell)) is_pin
    ∙ found

of_cells : (units : Units) (cells : List Group) (said : Cells) → said.cells ≡ map (cell_info units) cells → AreDistinct cells → (r : Repeater) → IsAmong units cells r → IsOfCells said r
of_cells units cells said e h r (cell, among, is) =
    let two = two_found (pins_of units cell) is.input is.output is.parts.pins in
    let input : pin_in said r.cell r.input ≡ Some is.input = pin_found units cells said cell r.cell r.input is.input.name is.input e h among is.cell_name is.input_name two.0 in
    let output : pin_in said r.cell r.output ≡ Some is.output = pin_found units cells said cell r.cell r.output is.output.name is.output e h among is.cell_name is.output_name two.1 in
    record {
      input = ap (option_and_then (λ (p : PinInfo). p.cap)) input ∙ is.parts.does.cin;
      output = ap (option_and_then (λ (p : PinInfo). p.drive)) output ∙ is.parts.does.drive;
      limit = ap (option_and_then (λ (p : PinInfo). p.max)) output ∙ sym is.parts.does.limit;
      differ = λ s. is.parts.pins.ways.differ (sym is.input_name ∙ s ∙ is.output_name);
    }

-- the names of differing repeaters, one by one
pub differ : (reps : List Repeater) → AllPairs (λ a b. a ≢ b) (map (λ (r : Repeater). r.cell) reps) → AllPairs (λ (a b : Repeater). a.cell ≢ b.cell) reps
differ reps h i j d i_j j_n e =
    h i j d.cell i_j (omega (arith, length-map reps (λ (r : Repeater). r.cell)))
    (get_or-map (λ (r : Repeater). r.cell) reps i d d.cell (omega arith) ∙ e ∙ sym (get_or-map (λ (r : Repeater). r.cell) reps j d d.cell j_n))

-- the repeaters of a library are of its cells
pub are_of_cells : (units : Units) (cells : List Group) (said : Cells) → said.cells ≡ map (cell_info units) cells → AreDistinct cells
    → AreRepeatersOf units cells said.repeaters → AreOfCells said
are_of_cells units cells said e h reps = record {
  each =
      All-permutation (IsOfCells said) reps.found said.repeaters reps.order.same
      (λ k d k_n. of_cells units cells said e h (get_or reps.found k d) (from_cells units reps.are k d k_n));
  once = differ said.repeaters (ordered_distinct reps.found said.repeaters reps.order (found_distinct units reps.are h));
}

-- what a library says, by its units
pub says : (units : Units) (library : Group) (said : Cells) → units ≡ units_of library → header_flaws library ≡ [] → value_flaws units library ≡ []
    → said.cells ≡ cells_of units library → AreRepeatersOf units (cell_groups library) said.repeaters → Says library said
says units library said u sound flaws cells reps = record { header = sound; values = rw u at flaws; cells = rw u at cells; repeaters = rw u at reps }
