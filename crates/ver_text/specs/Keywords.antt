-- The bytes with which keywords begin: for the functions between.
use Rattle.std.specs.Prelude.{ℕ, ◌==◌, ◌||◌, Bool}

-- a keyword begins with this byte
abbrev pub begins_keyword : ℕ → Bool
begins_keyword b =
    (b == 97) || ((b == 100) || ((b == 101) || ((b == 105) || ((b == 109)
    || ((b == 111) || ((b == 112) || ((b == 115) || ((b == 116) || (b == 119)))))))))
