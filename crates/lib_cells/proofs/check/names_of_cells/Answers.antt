use Rattle.std.proofs.Common.{refl, sym, ◌∙◌}
use Rattle.lib_cells.proofs.FlawLemmas.{none_twice, one_named, one_twice}
use Rattle.lib_cells.proofs.check.names_of_cells.Goals as goal

pub cell-preserved : goal.cell-preserved
cell-preserved c = record {
  names =
      rw (c.in_ok-add_name.ensures, c.name_of.ensures) (one_named c.cell.names c.cell.cell-iterator c.in-Some.cell c.next.new.self c.in-Some.ensures.steps) ∙ c.cell.invariant.names;
  first =
      rw (c.first_of-first.ensures, c.twice_flaw.ensures, c.in_ok-add_name.ensures, c.name_of.ensures)
      (sym (one_twice c.args.bytes.now c.cell.first c.cell.names c.cell.cell-iterator c.in-Some.cell c.next.new.self c.in-Some.ensures.steps))
      ∙ c.cell.invariant.first;
}

pub returns-clause-first : goal.returns-clause-first
returns-clause-first c =
    sym (none_twice c.args.bytes.now c.cell.first c.cell.names c.cell.cell-iterator c.in-None.ensures.steps.0) ∙ c.cell.invariant.first
    ∙ rw (c.into_iter-cell-iterator.ensures.into_iter_gives, c.groups-cell-items.ensures, c.new-names.ensures) refl
