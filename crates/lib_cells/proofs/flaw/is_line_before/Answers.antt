use Rattle.std.proofs.Common.{refl, ◌∙◌}
use Rattle.lib_cells.proofs.LineLemmas.{lines_between, no_line_between}
use Rattle.lib_cells.proofs.flaw.is_line_before.Goals as goal

pub returns-then-from-to : goal.returns-then-from-to
returns-then-from-to c =
    c.has_newline.ensures ∙ lines_between c.args.bytes.now c.min-from.result c.min-to.result c.if-from-to.true
    ∙ rw (c.min-from.ensures, c.min-to.ensures, c.saturating_sub-last.ensures) refl

pub returns-else-from-to : goal.returns-else-from-to
returns-else-from-to c =
    no_line_between c.args.bytes.now c.min-from.result c.min-to.result c.if-from-to.false ∙ rw (c.min-from.ensures, c.min-to.ensures, c.saturating_sub-last.ensures) refl
