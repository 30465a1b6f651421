use Rattle.std.proofs.Common.{◌∙◌, ◌<◌, false, sym, ap, length, arith, Some, List, []}
use Rattle.std.specs.List.{slice_get}
use Rattle.std.specs.Prelude.{option_map}
use Rattle.spef_file.specs.Tables.{NetRow}
use Rattle.spef_file.specs.declared.section.Section.{Section}
use Rattle.spef_file.proofs.ZipLemmas.{length_of, zip_at}
use Rattle.spef_file.proofs.sections.Sections.name.Goals as goal

pub overflow_cast-at : goal.overflow_cast-at
overflow_cast-at c = omega (arith, c.requires, c.self.invariant, length_of c.self.inside.names c.self.inside.rows.items c.self.invariant.0, ap length c.self.view_is)

pub name-requires : goal.name-requires
name-requires c = omega (arith, c.requires, c.self.invariant, length_of c.self.inside.names c.self.inside.rows.items c.self.invariant.0, ap length c.self.view_is)

pub returns : goal.returns
returns c =
    let none : Section = record { from = 0; to = 0; line = 0; reduced = false } in
    let l : c.args.at < length c.self.inside.rows.items = omega (arith, c.requires, length_of c.self.inside.names c.self.inside.rows.items c.self.invariant.0, ap length c.self.view_is) in
    ap (λ (nets : List NetRow). option_map (λ (net : NetRow). net.0) (slice_get nets c.args.at)) (sym c.self.view_is)
    ∙ ap (option_map (λ (net : NetRow). net.0)) (zip_at c.self.inside.names c.self.inside.rows.items c.args.at [] none c.self.invariant.0 l)
    ∙ ap Some (sym c.name.ensures)
