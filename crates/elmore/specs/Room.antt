-- What a scratch holds.
use Rattle.std.specs.Prelude.{ℕ, List, length, ℤ}
use Rattle.elmore.specs.declared.scratch.Scratch.{Scratch}

-- for how many nodes it was made
abbrev pub room_of : Scratch → ℕ
room_of scratch = length scratch.delays.items

-- the delays that were computed last, one for each node
abbrev pub delays_of : Scratch → List ℤ
delays_of scratch = scratch.delays.items
