use Rattle.std.proofs.Common.{◌∙◌, ◌<◌, false, sym, ap, length, arith, get_or, Some, List, []}
use Rattle.std.specs.List.{slice_get}
use Rattle.std.specs.Prelude.{option_map}
use Rattle.spef_file.specs.Tables.{NetRow}
use Rattle.spef_file.specs.declared.section.Section.{Section}
use Rattle.spef_file.proofs.ZipLemmas.{length_of, zip_at}
use Rattle.spef_file.proofs.sections.Sections.get.Goals as goal

pub offset_bounds-as_slice-at : goal.offset_bounds-as_slice-at
offset_bounds-as_slice-at c = omega (arith, c.requires, c.self.invariant, length_of c.self.inside.names c.self.inside.rows.items c.self.invariant.0, ap length c.self.view_is)

pub bounds-as_slice-at : goal.bounds-as_slice-at
bounds-as_slice-at c = omega (arith, c.requires, ap length c.as_slice.ensures.value, length_of c.self.inside.names c.self.inside.rows.items c.self.invariant.0, ap length c.self.view_is)

pub returns : goal.returns
returns c =
    let none : Section = record { from = 0; to = 0; line = 0; reduced = false } in
    let l : c.args.at < length c.self.inside.rows.items = omega (arith, c.requires, length_of c.self.inside.names c.self.inside.rows.items c.self.invariant.0, ap length c.self.view_is) in
    ap (λ (nets : List NetRow). option_map (λ (net : NetRow). net.1) (slice_get nets c.args.at)) (sym c.self.view_is)
    ∙ ap (option_map (λ (net : NetRow). net.1)) (zip_at c.self.inside.names c.self.inside.rows.items c.args.at [] none c.self.invariant.0 l)
    ∙ ap (λ (rows : List Section). Some (get_or rows c.args.at none)) (sym c.as_slice.ensures.value)
