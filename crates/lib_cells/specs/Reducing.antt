-- A text without blanks that reduces to a name, as the code finds it by counting: for the functions between.
use Rattle.std.specs.Prelude.{ℕ, ◌+◌, ◌-◌, ◌%◌, ◌==◌, ◌||◌, ◌&&◌, nat_le, Bool, List, length, take, drop, zip}
use Rattle.std.specs.List.{count_by, list_all}

-- a byte that may stand before the name
abbrev pub is_front : ℕ → Bool
is_front b = (b == 33) || (b == 40)

-- a byte that may stand after it
abbrev pub is_back : ℕ → Bool
is_back b = (b == 41) || (b == 39)

-- a byte that inverts
abbrev pub is_not : ℕ → Bool
is_not b = (b == 33) || (b == 39)

abbrev pub is_open : ℕ → Bool
is_open b = b == 40

abbrev pub is_close : ℕ → Bool
is_close b = b == 41

-- the elements at the same places are the same
abbrev pub agree : List ℕ → List ℕ → Bool
agree xs ys = list_all (λ p. p.0 == p.1) (zip xs ys)

-- the name stands after so many bytes that may stand before it, and all others may stand after it
abbrev pub stands_after : ℕ → List ℕ → List ℕ → Bool
stands_after front text name =
    nat_le (front + length name) (length text)
    && (list_all is_front (take front text)
    && (agree (drop front text) name && list_all is_back (drop (front + length name) text)))

-- outside the name as many brackets open as close
abbrev pub is_balanced : List ℕ → List ℕ → Bool
is_balanced text name =
    (count_by is_open text + count_by is_close name) == (count_by is_close text + count_by is_open name)

-- the name stands after as many bytes as the text has more of those that may stand before it than the name: after the
-- name is none of these
abbrev pub fits : List ℕ → List ℕ → Bool
fits text name =
    nat_le (count_by is_front name) (count_by is_front text)
    && (is_balanced text name && stands_after (count_by is_front text - count_by is_front name) text name)

-- an odd number of bytes invert, outside the name
abbrev pub inverts : List ℕ → List ℕ → Bool
inverts text name = ((count_by is_not text + count_by is_not name) % 2) == 1
