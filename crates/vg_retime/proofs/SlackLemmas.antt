-- What is left at a sink, and the slack, are whole in a machine's integer.
use Rattle.std.proofs.Common.{◌≡◌, ◌^◌, ℤ, pos, ◌-ℤ◌, ◌≤ℤ◌, SFits, to_z, of_z, sym, subst, ◌∙◌, arith}
use Rattle.std.proofs.lemmas.Int.{ints, to_z-of_z, fits_signed_from_abs}
use mir.Syntax.{w128}
use Rattle.elmore.specs.Problems.{IsSmall}
use Rattle.vg_retime.specs.Times.{IsTime}

fits_by : (z : ℤ) → (pos 0 -ℤ pos (2 ^ 122)) ≤ℤ z → z ≤ℤ pos (2 ^ 122) → SFits w128 z
fits_by z low high = fits_signed_from_abs w128 z (omega (arith, ints))

pub time_whole : (z : ℤ) → IsTime z → to_z w128 (of_z w128 z) ≡ z
time_whole z time = to_z-of_z w128 z (fits_by z (omega (arith, ints, time.low)) (omega (arith, ints, time.high)))

pub small_whole : (z : ℤ) → IsSmall z → to_z w128 (of_z w128 z) ≡ z
small_whole z small = to_z-of_z w128 z (fits_by z (omega (arith, ints, small.low)) (omega (arith, ints, small.high)))

-- a time less a small one
module _ (left arrival : ℤ) (time : IsTime left) (small : IsSmall arrival) where
  less_is : to_z w128 (of_z w128 left) -ℤ to_z w128 (of_z w128 arrival) ≡ left -ℤ arrival
  less_is = λ i. time_whole left time i -ℤ small_whole arrival small i

  pub less_fits : SFits w128 (to_z w128 (of_z w128 left) -ℤ to_z w128 (of_z w128 arrival))
  less_fits =
      subst (SFits w128) (sym less_is)
      (fits_by (left -ℤ arrival) (omega (arith, ints, time.low, small.high)) (omega (arith, ints, time.high, small.low)))

  -- and less another one
  module _ (k : ℤ) (small_k : IsSmall k) where
    less_twice : to_z w128 (of_z w128 (to_z w128 (of_z w128 left) -ℤ to_z w128 (of_z w128 arrival))) -ℤ to_z w128 (of_z w128 k) ≡ left -ℤ arrival -ℤ k
    less_twice = λ i. (to_z-of_z w128 (to_z w128 (of_z w128 left) -ℤ to_z w128 (of_z w128 arrival)) less_fits ∙ less_is) i -ℤ small_whole k small_k i

    pub slack_fits : SFits w128 (to_z w128 (of_z w128 (to_z w128 (of_z w128 left) -ℤ to_z w128 (of_z w128 arrival))) -ℤ to_z w128 (of_z w128 k))
    slack_fits =
        subst (SFits w128) (sym less_twice)
        (fits_by (left -ℤ arrival -ℤ k) (omega (arith, ints, time.low, small.high, small_k.high)) (omega (arith, ints, time.high, small.low, small_k.low)))

    pub slack_is : to_z w128 (of_z w128 (to_z w128 (of_z w128 (to_z w128 (of_z w128 left) -ℤ to_z w128 (of_z w128 arrival))) -ℤ to_z w128 (of_z w128 k)))
        ≡ left -ℤ arrival -ℤ k
    slack_is =
        to_z-of_z w128 (to_z w128 (of_z w128 (to_z w128 (of_z w128 left) -ℤ to_z w128 (of_z w128 arrival))) -ℤ to_z w128 (of_z w128 k)) slack_fits ∙ less_twice
