use Rattle.std.proofs.Common.{ap}
use Rattle.vg_check.specs.Hulls.{pair_at}
use Rattle.vg_check.specs.declared.hull.Point.{Point}
use Rattle.vg_check.proofs.HullLemmas.{point_here}
use Rattle.vg_check.proofs.OrderLemmas.{found_greatest}
use Rattle.vg_check.proofs.hull.greatest_on.Goals as goal

pub returns : goal.returns
returns c =
    let place = rw c.deref.ensures.value at c.place_of-place.ensures in
    found_greatest c.args.rep.now c.args.pairs.now c.args.hull.now.next c.args.hull.now.points.items c.place_of-place.result
    (pair_at c.args.pairs.now c.index.result.now.at) c.greatest.result c.requires.rising c.requires.hull c.requires.within c.requires.rep.r place
    (ap (λ (p : Point). pair_at c.args.pairs.now p.at)
    (point_here c.args.hull.now.points.items c.place_of-place.result c.index.result.now place.inside c.index.ensures))
    c.greatest.ensures
