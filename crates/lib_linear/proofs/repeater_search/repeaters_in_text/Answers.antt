use Rattle.std.proofs.Common.{rules, sym, ◌∙◌, arith}
use Rattle.std.proofs.lemmas.Grind.{common_steps}
use Rattle.lib_cells.specs.Cells.{cell_body, cell_groups}
use Rattle.lib_linear.proofs.RepeaterSteps.{start, finish, info_at, step, over}
use Rattle.lib_linear.proofs.repeater_search.repeaters_in_text.Goals as goal

pub loop-at-init : goal.loop-at-init
loop-at-init c =
    rw (c.into_iter-at-iterator.ensures.into_iter_gives, c.enumerate-at-items.ensures.source, c.enumerate-at-items.ensures.count, c.groups.ensures, c.new-found.ensures.items)
    record { taken = start c.args.units (cell_groups c.args.library.now) }

pub bounds-bodies-at : goal.bounds-bodies-at
bounds-bodies-at c =
    let left = sym c.in-Some.ensures.steps.0 ∙ c.loop-at.invariant.taken.rest in
    let at = c.in-Some.ensures.steps.1 in
    rw c.requires.bodies (grind (arith, common_steps))

pub take_cell-requires-clause-body : goal.take_cell-requires-clause-body
take_cell-requires-clause-body c =
    let read = rw (c.requires.bodies, c.in-Some.ensures.steps.1) at c.index-bodies-at.is in
    read
    ∙ info_at (cell_body c.args.units) (cell_groups c.args.library.now) c.loop-at.at-iterator.count c.in-Some.cell c.next.new.self.iter c.index-bodies-at.result
    (sym c.in-Some.ensures.steps.0 ∙ c.loop-at.invariant.taken.rest)

pub returns-in_err-take_cell-clause-many : goal.returns-in_err-take_cell-clause-many
returns-in_err-take_cell-clause-many c =
    λ place e.
    over c.args.units (cell_groups c.args.library.now) c.in-Some.cell c.next.new.self.iter c.loop-at.at-iterator.count c.loop-at.found.items
    (rw c.in-Some.ensures.steps.0 at c.loop-at.invariant.taken) place (c.take_cell.ensures.many place (search rules))

pub loop-at-preserved : goal.loop-at-preserved
loop-at-preserved c =
    rw c.in-Some.ensures.steps.2
    record {
      taken =
          step c.args.units (cell_groups c.args.library.now) c.in-Some.cell c.next.new.self.iter c.loop-at.at-iterator.count c.loop-at.found.items
          (rw c.in-Some.ensures.steps.0 at c.loop-at.invariant.taken) c.take_cell.new.found.items c.in_ok-take_cell.ensures.next;
    }

pub returns-clause-found : goal.returns-clause-found
returns-clause-found c =
    finish c.args.units (cell_groups c.args.library.now) c.loop-at.at-iterator.count c.loop-at.found.items
    (rw c.in-None.ensures.steps.0.0 at c.loop-at.invariant.taken)

pub returns-clause-few : goal.returns-clause-few
returns-clause-few c = c.loop-at.invariant.taken.few
