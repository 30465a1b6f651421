use Rattle.std.proofs.Common.{◌≡◌, ◌<◌, ℕ, List, length, subst, flat_map, sym, ap, ◌∙◌}
use Rattle.ver_syntax.specs.declared.row.Row.{Row}
use Rattle.ver_items.specs.Connections.{expression_in}
use Rattle.ver_items.specs.Sections.{is_identifier, sections}
use Rattle.ver_file.specs.Firsts.{first_of}
use Rattle.ver_file.specs.Flaws.{select_flaws}
use Rattle.ver_file.proofs.PinLemmas.{none_selected}
use Rattle.ver_file.proofs.check.link_flaws.Goals as goal

short : (rows : List Row) (n : ℕ) → n ≡ length rows → n < 2 → length rows < 2
short rows n e l = subst (λ k. k < 2) e l

pub returns-then-len-lt2 : goal.returns-then-len-lt2
returns-then-len-lt2 g c =
    ap (first_of c.args.first)
    (sym (none_selected c.args.scope.now.text.now (g.T.Stretch.tokens c.expression_in-expression.result) (short (g.T.Stretch.tokens c.expression_in-expression.result) c.len.result c.len.ensures c.if-len-lt2.true))
    ∙ ap (λ rows. flat_map (select_flaws c.args.scope.now.text.now) (sections is_identifier rows)) (c.expression_in-expression.ensures ∙ ap expression_in c.connection_of.ensures))
