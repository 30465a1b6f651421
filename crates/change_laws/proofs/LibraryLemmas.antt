-- What a design says of its library's repeaters, and of a prefix that may be asked for.
use Rattle.std.proofs.Common.{◌≡◌, ℕ, ◌&&◌, true, List, [], ◌∷◌, refl, arith}
use Rattle.std.specs.Prelude.{nat_le}
use Rattle.std.specs.List.{All, AllPass, flat_map, list_all}
use Rattle.std.proofs.lemmas.Bool.{and_parts}
use Rattle.std.proofs.lemmas.Bool.Decides.{nat_tests}
use Rattle.std.proofs.lemmas.List.Elements.{All-weaker}
use Rattle.std.proofs.lemmas.List.Sums.{AllPass-from_list_all}
use Rattle.lib_cells.proofs.NameLemmas.{no_part}
use Rattle.lib_cells.specs.Cells.{cell_groups}
use Rattle.lib_cells.specs.Flaws.{cell_flaws, twice_flaws}
use Rattle.lib_cells.specs.Units.{units_of}
use Rattle.lib_linear.proofs.CellLemmas.{are_of_cells}
use Rattle.lib_linear.proofs.RepeaterLaws.{none_twice}
use Rattle.lib_linear.specs.Libraries.{AreOfCells, Cells, Denotes, library_in_bytes}
use Rattle.lib_laws.proofs.NameLemmas.{are_words}
use Rattle.lib_laws.specs.NameLaws.{HasPrintableNames}
use Rattle.vg_scan.specs.Printed.{is_solid}
use Rattle.vg_split.specs.Conditions.{IsNamed}
use Rattle.vg_scan.specs.Prefixes.{is_letter, is_name_byte, is_prefix}

-- the pins of a text's repeaters are what the text says of them
pub of_cells : (text : List ℕ) (said : Cells) → Denotes text said → AreOfCells said
of_cells text said is =
    let units = units_of (library_in_bytes text) in
    let cells = cell_groups (library_in_bytes text) in
    are_of_cells units cells said is.says.cells (none_twice cells (no_part (twice_flaws [] cells) (flat_map (cell_flaws units) cells) is.says.values)) is.says.repeaters

-- their names can be words
pub are_named : (text : List ℕ) (said : Cells) → Denotes text said → All IsNamed said.repeaters
are_named text said is =
    All-weaker HasPrintableNames IsNamed (λ r has. record { cell = has.cell; ends = has.ends; input = has.input; output = has.output }) said.repeaters (are_words text said is)

letter : (b : ℕ) → is_letter b ≡ true → is_solid b ≡ true
letter b e = grind (arith, nat_tests)

name_byte : (b : ℕ) → is_name_byte b ≡ true → is_solid b ≡ true
name_byte b e = grind (arith, nat_tests)

name_bytes : (bs : List ℕ) → list_all is_name_byte bs ≡ true → list_all is_solid bs ≡ true
name_bytes [] e = refl
name_bytes (b ∷ bs) e = let (first, rest) = and_parts (is_name_byte b) (list_all is_name_byte bs) e in λ i. name_byte b first i && name_bytes bs rest i

all_solid : (prefix : List ℕ) → is_prefix prefix ≡ true → list_all is_solid prefix ≡ true
all_solid [] e = refl
all_solid (b ∷ bytes) e =
    let (few, rest) = and_parts (nat_le _ 31) (is_letter b && list_all is_name_byte bytes) e in
    let (first, more) = and_parts (is_letter b) (list_all is_name_byte bytes) rest in
    λ i. letter b first i && name_bytes bytes more i

-- a prefix can be a word
pub solid : (prefix : List ℕ) → is_prefix prefix ≡ true → AllPass is_solid prefix
solid prefix e = AllPass-from_list_all is_solid prefix (all_solid prefix e)
