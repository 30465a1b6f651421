use Rattle.std.proofs.Common.{flat_map, refl, sym, ◌∙◌}
use Rattle.lib_cells.specs.Cells.{greatest, timings}
use Rattle.lib_cells.specs.Pins.{pair_in}
use Rattle.lib_cells.specs.Values.{given}
use Rattle.lib_cells.proofs.PinLemmas.{all_taken, taken}
use Rattle.lib_cells.proofs.pin.greatest_in.Goals as goal

pub timing-preserved : goal.timing-preserved
timing-preserved c = record {
  left =
      taken (greatest (flat_map (pair_in c.args.rise.now c.args.fall.now c.args.places) (timings c.args.pin.now))) c.timing.best c.greater-best.result
      (given c.in-Some.timing c.args.rise.now c.args.places) (given c.in-Some.timing c.args.fall.now c.args.places)
      (flat_map (pair_in c.args.rise.now c.args.fall.now c.args.places) c.next.new.self)
      (c.greater-best.ensures ∙ rw (c.greater.ensures, c.given.ensures, c.given-in-timing.ensures) refl)
      (c.timing.invariant.left ∙ rw c.in-Some.ensures.steps refl);
}

pub returns : goal.returns
returns c =
    sym (all_taken (greatest (flat_map (pair_in c.args.rise.now c.args.fall.now c.args.places) (timings c.args.pin.now))) c.timing.best
    (flat_map (pair_in c.args.rise.now c.args.fall.now c.args.places) c.timing.timing-iterator) (rw c.in-None.ensures.steps.0 refl) c.timing.invariant.left)
