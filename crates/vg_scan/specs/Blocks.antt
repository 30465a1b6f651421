-- Comments from `/*` to `*/`, which SPEF and Liberty both have.
use Rattle.std.specs.Prelude.{ℕ, ◌+◌, ◌==◌, ◌&&◌, Bool, List, [], ◌∷◌, if◌then◌else◌}

-- `/*` begins a comment that ends with the next `*/`
abbrev pub is_block_mark : ℕ → ℕ → Bool
is_block_mark b c = (b == 47) && (c == 42)

-- how many bytes there are through the first `*/`, else to the text's end
abbrev pub through_block : List ℕ → ℕ
through_block [] = 0
through_block (b ∷ []) = 1
through_block (b ∷ c ∷ bs) = if (b == 42) && (c == 47) then 2 else through_block (c ∷ bs) + 1

-- a byte of a comment: a newline stays, every other byte becomes a space
abbrev pub blanked : ℕ → ℕ
blanked b = if b == 10 then 10 else 32
