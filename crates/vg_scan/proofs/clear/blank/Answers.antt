use Rattle.std.proofs.Common.{arith, length-set}
use Rattle.vg_scan.proofs.InPlaceLemmas.{front_more, rest_more}
use Rattle.vg_scan.proofs.clear.blank.Goals as goal

pub place-preserved : goal.place-preserved
place-preserved c = record {
  front =
      front_more c.args.text.now c.place.text c.args.span.from c.place.place c.blanked.result c.place.invariant.low (omega arith) c.place.invariant.long c.place.invariant.rest
      c.blanked.ensures c.place.invariant.front;
  rest =
      rest_more c.args.text.now c.place.text c.args.span.from c.place.place c.blanked.result c.place.invariant.low (omega arith) c.place.invariant.long c.place.invariant.rest
      c.blanked.ensures;
  long = simp length-set c.place.invariant.long;
  low = omega arith;
}
