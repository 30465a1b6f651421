-- The text of a whole number divided by a power of ten.
use Rattle.std.specs.Prelude.{ℕ, zero, suc, ◌+◌, ◌/◌, ◌%◌, ◌==◌, if◌then◌else◌, List, [], ◌∷◌, ◌++◌}
use Rattle.std.specs.Fmt.{decimal}

-- the whole part, a point, and each digit of the fraction
abbrev pub with_point : ℕ → ℕ → List ℕ
with_point n zero = decimal n ++ 46 ∷ []
with_point n (suc places) = with_point (n / 10) places ++ (48 + n % 10) ∷ []

-- the same without the zeros that end the fraction, and without the point where nothing follows it
unfoldable pub scaled_text : ℕ → ℕ → List ℕ
scaled_text n zero = decimal n
scaled_text n (suc places) = if n % 10 == 0 then scaled_text (n / 10) places else with_point n (suc places)
