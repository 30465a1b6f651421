use Rattle.std.proofs.Common.{take}
use Rattle.vg_front.specs.Offers.{Adds, OfSome}
use Rattle.vg_front.specs.Tries.{IsTriedBy, AreBests}
use Rattle.vg_front.proofs.tries.try_each.Given as goal

abbrev pub invariant-numbers : goal.invariant-numbers
invariant-numbers l = record {
  tried : Adds (OfSome (take l.number-index l.numbers) (IsTriedBy l.site l.reps l.xs)) l.fn.made.items l.made.items;
  bests : AreBests l.reps l.made.items l.bests;
}
