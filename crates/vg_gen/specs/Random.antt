-- Random numbers: a linear congruential generator, with the constants of the example of `rand` in ISO/IEC 9899.
use Rattle.std.specs.Prelude.{ℕ, zero, suc, ◌+◌, ◌*◌, ◌%◌, ◌^◌}

-- the number behind x
abbrev pub next_number : ℕ → ℕ
next_number x = (x * 1103515245 + 12345) % 2 ^ 31

-- the i-th number behind a seed, which is number 0 itself
unfoldable pub random : ℕ → ℕ → ℕ
random seed zero = seed
random seed (suc i) = next_number (random seed i)
