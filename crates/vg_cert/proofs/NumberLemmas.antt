-- Numbers that were read.
use Rattle.std.proofs.Common.{◌≡◌, ℕ, ◌^◌, ◌≤◌, Bool, true, false, ℤ, List, refl, subst, arith, Ok, Err, not, nat_lt, if◌then◌else◌}
use Rattle.std.proofs.lemmas.Int.{ints}
use Rattle.std.proofs.lemmas.Bool.Decides.{nat_tests}
use Rattle.std.specs.Str.Parse.{starts_with_minus}
use Rattle.vg_num.specs.Number.{whole_of, are_digits, value_of, with_sign, without_minus}
use Rattle.vg_num.specs.declared.fault.NumFault.TheVariants.{Form, TooLarge}
use Rattle.vg_cert.specs.Fits.{IsTime}

time_of : (minus : Bool) (n : ℕ) → n ≤ 10 ^ 26 → IsTime (with_sign minus n)
time_of true n l = record { low = omega (arith, ints, l); high = omega (arith, ints, l) }
time_of false n l = record { low = omega (arith, ints, l); high = omega (arith, ints, l) }

read_with : (form large : Bool) (minus : Bool) (n : ℕ) (z : ℤ) → nat_lt (10 ^ 26) n ≡ large → (if not form then Err Form else (if large then Err TooLarge else Ok (with_sign minus n))) ≡ Ok z → IsTime z
read_with false large minus n z h e = absurd (cc)
read_with true true minus n z h e = absurd (cc)
read_with true false minus n z h e =
    let is : with_sign minus n ≡ z = cc in
    subst IsTime is (time_of minus n (grind (arith, nat_tests, h)))

-- a number that was read is at most 10^26 in size
pub time_read : (word : List ℕ) (z : ℤ) → whole_of word ≡ Ok z → IsTime z
unfolding whole_of
time_read word z e = read_with (are_digits (without_minus word)) (nat_lt (10 ^ 26) (value_of (without_minus word))) (starts_with_minus word) (value_of (without_minus word)) z refl e
