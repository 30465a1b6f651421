use Rattle.std.proofs.Common.{◌<◌, refl, arith, length, ap}
use Rattle.sol_arena.specs.Uses.{uses_in}
use Rattle.sol_arena.proofs.OneLemmas.{one_same}
use Rattle.sol_arena.proofs.CountLemmas.{length-made_in}
use Rattle.sol_arena.proofs.make.give_uses.Goals as goal

pub use_once-requires-clause-within : goal.use_once-requires-clause-within
use_once-requires-clause-within c =
    λ some. let p : 0 < uses_in c.args.made c.in-Cell.below = rw c.in-Cell.is (omega (arith, one_same c.in-Cell.below c.in-Cell.below refl)) in c.requires.within c.in-Cell.below some p

pub use_once-requires-in-Join-clause-within : goal.use_once-requires-in-Join-clause-within
use_once-requires-in-Join-clause-within c =
    λ some. let p : 0 < uses_in c.args.made c.in-Join.a = rw c.in-Join.is (omega (arith, one_same c.in-Join.a c.in-Join.a refl)) in c.requires.within c.in-Join.a some p

pub use_once-requires-in-Join-2-clause-within : goal.use_once-requires-in-Join-2-clause-within
use_once-requires-in-Join-2-clause-within c =
    λ some. let p : 0 < uses_in c.args.made c.in-Join.b = rw c.in-Join.is (omega (arith, one_same c.in-Join.b c.in-Join.b refl)) in
    omega (arith, c.requires.within c.in-Join.b some p, ap length c.use_once-in-Join.ensures.same, length-made_in c.args.slots.now.items, length-made_in c.use_once-in-Join.new.slots.items)
