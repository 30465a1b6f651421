-- Times within the limits are whole in a machine's integer.
use Rattle.std.proofs.Common.{◌≡◌, ℕ, ◌^◌, ◌≤◌, ℤ, pos, ◌-ℤ◌, ◌≤ℤ◌, to_z, of_z, ◌∙◌, sym, arith}
use Rattle.std.proofs.lemmas.Int.{ints, to_z-of_z, fits_signed_from_abs}
use mir.Syntax.{w128}
use Rattle.elmore.specs.Steps.{IsSum}

pub whole : (z : ℤ) → (pos 0 -ℤ pos (10 ^ 26)) ≤ℤ z → z ≤ℤ pos (10 ^ 26) → to_z w128 (of_z w128 z) ≡ z
whole z low high = to_z-of_z w128 z (fits_signed_from_abs w128 z (omega (arith, ints)))

-- a small sum
pub is_sum : (z : ℤ) (n : ℕ) → n ≤ 2 ^ 100 → z ≡ pos n → IsSum z
is_sum z n small is = rw is (record { low = omega (arith, ints); high = omega (arith, ints) })

pub same_sum : (z : ℤ) (m n : ℕ) → z ≡ pos m → z ≡ pos n → m ≡ n
same_sum z m n a b =
    let same : pos m ≡ pos n = sym a ∙ b in
    omega (arith, ints)
