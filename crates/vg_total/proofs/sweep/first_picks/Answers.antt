use Rattle.vg_total.proofs.TurnLemmas.{start, none_chosen}
use Rattle.vg_total.proofs.sweep.first_picks.Goals as goal

pub returns-then-has_empty : goal.returns-then-has_empty
returns-then-has_empty c = λ cap. none_chosen c.args.fronts.now cap c.if-has_empty.ensures

pub returns : goal.returns
returns c = λ cap.
    start c.args.fronts.now cap c.in_ok-picks.picks.items c.requires c.if-has_empty.ensures (c.in_ok-picks.ensures.items_if_clones_equal (λ y same. same))
