use Rattle.std.proofs.Common.{◌≡◌, arith, pos, ◌+ℤ◌, ◌*◌, ◌+◌, ◌≤◌, ◌^◌, to_z, of_z}
use Rattle.std.proofs.Math.Nat.{mul-le-mul}
use Rattle.std.proofs.lemmas.Int.{ints, fits_signed_from_abs}
use mir.Syntax.{w128}
use Rattle.elmore.specs.Cells.{rep_of, cell_delay as delay_of}
use Rattle.elmore.specs.Stage.{seen}
use Rattle.elmore.proofs.FitLemmas.{whole}
use Rattle.elmore.proofs.PlacedTreeLemmas.{cell_delay_small}
use Rattle.elmore.proofs.slacks.delay_past.Goals as goal

-- what is added
wire_is : (c : goal.After-cell_delay) → c.delay_behind-behind_wire.result ≡ c.args.before +ℤ pos (c.args.r * seen (rep_of c.args.reps.now c.args.cell) c.args.load)
wire_is c = rw (whole c.args.before (omega (arith, ints)) (omega (arith, ints)), c.seen_above.ensures) at c.delay_behind-behind_wire.ensures

wire_small : (c : goal.After-cell_delay) → c.args.r * seen (rep_of c.args.reps.now c.args.cell) c.args.load ≤ 10 ^ 23
wire_small c = omega (arith, mul-le-mul c.requires.resistance c.requires.seen)

own_small : (c : goal.After-cell_delay) → delay_of (rep_of c.args.reps.now c.args.cell) c.args.load ≤ 101 * 10 ^ 18
own_small c = cell_delay_small c.args.reps.now c.requires.each c.args.cell c.args.load c.requires.load

sum_is : (c : goal.After-cell_delay) → to_z w128 (of_z w128 c.delay_behind-behind_wire.result) +ℤ to_z w128 (of_z w128 c.cell_delay.result)
    ≡ c.args.before +ℤ pos (c.args.r * seen (rep_of c.args.reps.now c.args.cell) c.args.load + delay_of (rep_of c.args.reps.now c.args.cell) c.args.load)
sum_is c =
    rw (
      whole c.delay_behind-behind_wire.result (omega (arith, ints, wire_is c, wire_small c)) (omega (arith, ints, wire_is c, wire_small c)),
      whole c.cell_delay.result (omega (arith, ints, c.cell_delay.ensures)) (omega (arith, ints, c.cell_delay.ensures, own_small c)),
      wire_is c,
      c.cell_delay.ensures,
    ) (omega (arith, ints))

pub overflow_add-result : goal.overflow_add-result
overflow_add-result c = rw (sum_is c) (fits_signed_from_abs w128 _ (omega (arith, ints, wire_small c, own_small c)))

pub returns : goal.returns
returns c = rw (sum_is c) (whole _ (omega (arith, ints, wire_small c, own_small c)) (omega (arith, ints, wire_small c, own_small c)))
