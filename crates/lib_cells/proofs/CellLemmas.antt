-- Cells whose names stand in a table beside what stands in them.
use Rattle.std.proofs.Common.{◌≡◌, ℕ, zero, suc, List, [], ◌∷◌, length, map, slice_get, option_map, refl, sym, ap, ◌∙◌, arith}
use Rattle.std.proofs.lemmas.List.{length-map}
use Rattle.lib_text.specs.Groups.{Group}
use Rattle.lib_cells.specs.declared.cell.CellBody.{CellBody}
use Rattle.lib_cells.specs.declared.units.Units.{Units}
use Rattle.lib_cells.specs.CellInfos.{CellInfo}
use Rattle.lib_cells.specs.Cells.{bodies_of, cell_body, cell_groups, cell_info, cells_named, cells_of, name_of}

-- the names of the cells are those of the table
pub names-cells_named : (names : List (List ℕ)) (bodies : List CellBody) → length names ≡ length bodies → names ≡ map (λ (info : CellInfo). info.name) (cells_named names bodies)
names-cells_named [] bodies e = refl
names-cells_named (name ∷ names) [] e = absurd (omega (arith, e))
names-cells_named (name ∷ names) (body ∷ bodies) e = ap (λ ns. name ∷ ns) (names-cells_named names bodies (omega (arith, e)))

-- the pins of a cell are those that stand in it
pub pins-cells_named : (names : List (List ℕ)) (bodies : List CellBody) (at : ℕ) → length names ≡ length bodies
    → option_map (λ (info : CellInfo). info.pins) (slice_get (cells_named names bodies) at) ≡ option_map (λ (body : CellBody). body.pins) (slice_get bodies at)
pins-cells_named [] [] at e = refl
pins-cells_named [] (body ∷ bodies) at e = absurd (omega (arith, e))
pins-cells_named (name ∷ names) [] at e = absurd (omega (arith, e))
pins-cells_named (name ∷ names) (body ∷ bodies) zero e = refl
pins-cells_named (name ∷ names) (body ∷ bodies) (suc at) e = pins-cells_named names bodies at (omega (arith, e))

cells_of_groups : (units : Units) (groups : List Group) → cells_named (map name_of groups) (map (cell_body units) groups) ≡ map (cell_info units) groups
cells_of_groups units [] = refl
cells_of_groups units (g ∷ gs) = ap (λ cells. cell_info units g ∷ cells) (cells_of_groups units gs)

-- the cells of a library are its names with what stands in its cells
pub cells_of_library : (units : Units) (library : Group) (names : List (List ℕ)) (bodies : List CellBody) → names ≡ map name_of (cell_groups library) → bodies ≡ bodies_of units library
    → cells_named names bodies ≡ cells_of units library
cells_of_library units library names bodies n b = (λ i. cells_named (n i) (b i)) ∙ cells_of_groups units (cell_groups library)

-- it has as many names as cells
pub names_of_library : (units : Units) (library : Group) (names : List (List ℕ)) (bodies : List CellBody) → names ≡ map name_of (cell_groups library) → bodies ≡ bodies_of units library
    → length names ≡ length bodies
names_of_library units library names bodies n b =
    let cells = cell_groups library in
    ap length n ∙ length-map cells name_of ∙ sym (length-map cells (cell_body units)) ∙ ap length (sym b)
