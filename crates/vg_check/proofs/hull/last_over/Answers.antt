use Rattle.std.proofs.Common.{◌/◌, arith}
use Rattle.vg_check.proofs.HullLemmas.{last_is}
use Rattle.vg_check.proofs.hull.last_over.Goals as goal

pub returns-then-last-lt1000000000 : goal.returns-then-last-lt1000000000
returns-then-last-lt1000000000 c =
    last_is c.args.a c.args.b c.further.result c.from.result (c.further.result / c.from.result) c.further.ensures
    (omega (arith, c.from.ensures, c.requires.below.room)) (omega (arith, c.from.ensures, c.requires.below.room)) (omega (arith, c.if-last-lt1000000000.true))
    (λ r r_low. (λ less. less, λ less. less))

pub returns-else-last-lt1000000000 : goal.returns-else-last-lt1000000000
returns-else-last-lt1000000000 c =
    last_is c.args.a c.args.b c.further.result c.from.result 1000000000 c.further.ensures
    (omega (arith, c.from.ensures, c.requires.below.room)) (omega (arith, c.from.ensures, c.requires.below.room)) (omega arith)
    (λ r r_low. (λ less. omega (arith, r_low, c.if-last-lt1000000000.false), λ less. omega (arith, r_low)))
