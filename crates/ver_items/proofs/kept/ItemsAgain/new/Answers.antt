use Rattle.std.proofs.Common.{◌≡◌, [], refl, rules, ◌∙◌}
use Rattle.ver_items.specs.Kept.{items_by}
use Rattle.ver_items.specs.Sections.{items}
use Rattle.ver_items.proofs.KeptLemmas.{all_kept, nothing_kept}
use Rattle.ver_items.proofs.kept.ItemsAgain.new.Goals as goal

pub invariant_of-result : goal.invariant_of-result
invariant_of-result c = nothing_kept [] [] refl refl

pub returns-in-Some : goal.returns-in-Some
returns-in-Some c =
    let whole : c.in-Some.kept.now ≡ items c.args.text.now = search rules in
    all_kept c.kept.inside.counts.items c.deref-in-Some.result.now c.kept.inside.rows.items c.deref.result.now c.new.result (items c.args.text.now)
    c.deref-in-Some.ensures.value c.deref.ensures.value (c.kept.view_is ∙ whole) c.new.ensures

pub returns-in-None : goal.returns-in-None
unfolding items_by
returns-in-None c = c.new-in-None.ensures
