use Rattle.std.proofs.Common.{◌∙◌, arith, get_or, sym}
use Rattle.std.proofs.lemmas.List.{get_or_default}
use Rattle.mode_total.specs.Picked.{NO_PICK}
use Rattle.mode_total.proofs.PickLemmas.{inside_at, picked_at}
use Rattle.mode_total.proofs.picks.picked.Goals as goal

pub bounds-picks-at : goal.bounds-picks-at
bounds-picks-at c =
    (inside_at c.args.fronts.now c.args.picks.now c.args.at c.index-fronts-at.result c.requires.inside c.requires.at c.index-fronts-at.is).0

pub index-requires : goal.index-requires
index-requires c =
    let low = (inside_at c.args.fronts.now c.args.picks.now c.args.at c.index-fronts-at.result c.requires.inside c.requires.at c.index-fronts-at.is).1 in
    omega (arith, low, c.index-fronts-at.result.ok.0)

pub returns : goal.returns
returns c =
    let front = c.index-fronts-at.result in
    let at = get_or c.args.picks.now c.args.at 0 in
    let (_, low) = inside_at c.args.fronts.now c.args.picks.now c.args.at front c.requires.inside c.requires.at c.index-fronts-at.is in
    let here = picked_at c.args.fronts.now c.args.picks.now c.args.at front c.requires.inside c.requires.at c.index-fronts-at.is in
    c.index.ensures ∙ get_or_default front.items at c.index.result.now NO_PICK low ∙ sym here
