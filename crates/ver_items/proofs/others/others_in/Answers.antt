use Rattle.std.proofs.Common.{sym, subst, ◌∙◌}
use Rattle.ver_items.specs.Others.{HasOthers}
use Rattle.ver_items.proofs.OtherLemmas.{alone}
use Rattle.ver_items.proofs.others.others_in.Goals as goal

pub returns-else-have_others : goal.returns-else-have_others
returns-else-have_others g c =
    let rows = g.T.Stretch.tokens c.args.rows.now in
    subst (HasOthers rows) (sym c.first.ensures) (alone rows (sym c.have_others.ensures ∙ c.if-have_others.false))
