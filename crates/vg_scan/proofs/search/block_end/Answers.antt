use Rattle.std.proofs.Common.{◌+◌, arith}
use Rattle.vg_scan.proofs.SearchLemmas.{to_star, star_there, block_goes}
use Rattle.vg_scan.proofs.search.block_end.Goals as goal

pub star-init : goal.star-init
star-init c = record {
  within = c.star_at-star.ensures.within;
  there = star_there c.args.text.now c.args.at c.star_at-star.result c.requires c.star_at-star.ensures.place;
  place = to_star c.args.text.now c.args.at c.star_at-star.result c.star_at-star.ensures.place;
}

pub star-preserved : goal.star-preserved
star-preserved c =
    let text = c.args.text.now in
    let star = c.star.star in
    let e = block_goes text star (omega arith) c.if-text-star-eq47.false in
    let f = to_star text (star + 1) c.star_at-star-in-star.result c.star_at-star-in-star.ensures.place in
    record {
      within = c.star_at-star-in-star.ensures.within;
      there = star_there text (star + 1) c.star_at-star-in-star.result (omega arith) c.star_at-star-in-star.ensures.place;
      place = omega (arith, c.star.invariant.place, e, f);
    }
