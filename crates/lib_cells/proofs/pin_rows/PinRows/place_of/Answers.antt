use Rattle.std.proofs.Common.{Box, Global, Option, ◌∙◌, position, sym, ap, subst}
use Rattle.std.specs.Option.{IfSome}
use Rattle.std.specs.Str.{bytes_eq}
use Rattle.lib_cells.specs.PinTables.{AreFirst}
use Rattle.lib_cells.specs.declared.first_places.FirstPlaces.{FirstPlaces}
use Rattle.lib_cells.specs.PinInfos.{PinInfo}
use Rattle.lib_cells.proofs.LookUpLemmas.{position_map}
use Rattle.lib_cells.proofs.PinTableLemmas.{names-pins_in}
use Rattle.lib_cells.proofs.pin_rows.PinRows.place_of.Goals as goal

pub returns-in-Some : goal.returns-in-Some
returns-in-Some c =
    let table = c.self.inside.table in
    let names = names-pins_in table.groups.items table.names table.numbers.items c.self.invariant.0.one_each in
    let first : AreFirst table.names c.in-Some.first.value =
    subst (λ (o : Option (Box FirstPlaces Global)). IfSome o (λ first. AreFirst table.names first.value)) c.in-Some.is c.self.invariant.1 in
    c.find.ensures table.names (subst (AreFirst table.names) (sym c.deref.ensures) first)
    ∙ ap (position (bytes_eq c.args.name.now)) (sym names)
    ∙ position_map (λ (p : PinInfo). p.name) (bytes_eq c.args.name.now) _
    ∙ ap (position (λ (p : PinInfo). bytes_eq c.args.name.now p.name)) c.self.view_is

pub returns-in-None : goal.returns-in-None
returns-in-None c =
    let table = c.self.inside.table in
    let names = names-pins_in table.groups.items table.names table.numbers.items c.self.invariant.0.one_each in
    c.first_place.ensures
    ∙ ap (position (bytes_eq c.args.name.now)) (sym names)
    ∙ position_map (λ (p : PinInfo). p.name) (bytes_eq c.args.name.now) _
    ∙ ap (position (λ (p : PinInfo). bytes_eq c.args.name.now p.name)) c.self.view_is
