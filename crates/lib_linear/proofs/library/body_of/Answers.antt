use Rattle.std.proofs.Common.{option_map, sym, ap, ◌∙◌}
use Rattle.std.specs.Str.{bytes_eq}
use Rattle.lib_cells.specs.CellInfos.{CellInfo}
use Rattle.lib_cells.specs.Cells.{cells_named}
use Rattle.lib_cells.specs.declared.cell.CellBody.{CellBody}
use Rattle.lib_cells.proofs.CellLemmas.{names-cells_named, pins-cells_named}
use Rattle.lib_cells.proofs.LookUpLemmas.{by_table, by_no_table}
use Rattle.lib_linear.proofs.library.body_of.Goals as goal

pub returns-in-None : goal.returns-in-None
returns-in-None c =
    let names = c.args.names.now in
    let bodies = c.args.bodies.now in
    let none =
    by_no_table (λ (info : CellInfo). info.name) (bytes_eq c.args.name.now) (cells_named names bodies) names (names-cells_named names bodies c.requires)
    (sym c.find.ensures ∙ c.in-None.is) in
    ap (option_map (λ (info : CellInfo). info.pins)) (sym none)

pub returns-in-Some : goal.returns-in-Some
returns-in-Some c =
    let names = c.args.names.now in
    let bodies = c.args.bodies.now in
    let some =
    by_table (λ (info : CellInfo). info.name) (bytes_eq c.args.name.now) (cells_named names bodies) names c.in-Some.id (names-cells_named names bodies c.requires)
    (sym c.find.ensures ∙ c.in-Some.is) in
    ap (option_map (λ (body : CellBody). body.pins)) c.body_at.ensures
    ∙ sym (pins-cells_named names bodies c.in-Some.id c.requires)
    ∙ ap (option_map (λ (info : CellInfo). info.pins)) (sym some)
