use Rattle.std.proofs.Common.{[], ◌∙◌}
use Rattle.std.specs.List.{flat_map}
use Rattle.lib_cells.specs.Cells.{cell_groups, cells_named}
use Rattle.lib_cells.specs.Flaws.{twice_flaws, cell_flaws}
use Rattle.lib_cells.proofs.CellLemmas.{cells_of_library, names_of_library}
use Rattle.lib_cells.proofs.NameLemmas.{no_part}
use Rattle.lib_linear.proofs.CellLemmas.{are_of_cells, says}
use Rattle.lib_linear.proofs.RepeaterLaws.{none_twice}
use Rattle.lib_linear.proofs.read.read_statements.Goals as goal

pub new-requires : goal.new-requires
new-requires c =
    let units = c.in_ok-units.units in
    let library = c.args.library.now in
    let names = c.in_ok-names.names in
    let bodies = c.in-Ok.bodies.items in
    let cells = cell_groups library in
    record {
      names = names_of_library units library names bodies c.in_ok-names.ensures.names c.in-Ok.ensures;
      repeaters =
          are_of_cells units cells (record { cells = cells_named names bodies; repeaters = c.in_ok-repeaters.repeaters.items })
          (cells_of_library units library names bodies c.in_ok-names.ensures.names c.in-Ok.ensures)
          (none_twice cells (no_part (twice_flaws [] cells) (flat_map (cell_flaws units) cells) c.in_ok-names.ensures.sound)) c.in_ok-repeaters.ensures.repeaters;
    }

pub returns-clause-says : goal.returns-clause-says
returns-clause-says c =
    says c.in_ok-units.units c.args.library.now c.new.result c.in_ok-units.ensures.units c.in_ok-units.ensures.sound c.in_ok-names.ensures.sound
    (c.new.ensures.cells
    ∙ cells_of_library c.in_ok-units.units c.args.library.now c.in_ok-names.names c.in-Ok.bodies.items c.in_ok-names.ensures.names c.in-Ok.ensures)
    (rw c.new.ensures.repeaters c.in_ok-repeaters.ensures.repeaters)
