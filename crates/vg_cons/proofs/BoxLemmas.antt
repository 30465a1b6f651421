-- A point between two corners.
use Rattle.std.proofs.Common.{◌≡◌, Bool, true, false, ◌&&◌, ℤ, SFits, refl}
use Rattle.std.specs.Int.{w128}
use Rattle.std.proofs.Common.{to_z, of_z}
use Rattle.std.proofs.lemmas.Int.{to_z-of_z}
use Rattle.vg_cons.specs.Rows.{is_between}

-- a number as the machine keeps it is the number
pub between_kept : {a b x : ℤ} → SFits w128 a → SFits w128 b → SFits w128 x
    → is_between (to_z w128 (of_z w128 a)) (to_z w128 (of_z w128 b)) (to_z w128 (of_z w128 x)) ≡ is_between a b x
between_kept {a} {b} {x} fa fb fx = rw (to_z-of_z w128 a fa, to_z-of_z w128 b fb, to_z-of_z w128 x fx) refl

pub both_hold : (p q r : Bool) → true ≡ p → r ≡ q → r ≡ (p && q)
both_hold true q r e f = f
both_hold false q r e f = absurd (cc)
