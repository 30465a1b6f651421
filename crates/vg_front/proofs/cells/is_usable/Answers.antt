use Rattle.std.proofs.Common.{List, ap, ◌∙◌}
use Rattle.elmore.specs.Cells.{rep_at}
use Rattle.elmore.specs.declared.rep.Rep.{Rep}
use Rattle.vg_front.specs.Driving.{behind}
use Rattle.vg_front.proofs.CellLemmas.{usable_cases}
use Rattle.vg_front.proofs.cells.is_usable.Goals as goal

pub returns-then-not-allows : goal.returns-then-not-allows
returns-then-not-allows c = λ is. c.if-not-allows.ensures is.allows

pub returns : goal.returns
returns c =
    usable_cases c.args.p.now c.args.node c.args.number c.args.odd c.behind.result c.args.below
    (c.behind.ensures ∙ ap (λ (l : List Rep). behind (rep_at l c.args.number) c.args.odd) c.as_slice.ensures) c.requires.number c.if-not-allows.ensures
