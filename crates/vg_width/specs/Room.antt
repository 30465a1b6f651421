-- For how many nodes a scratch was made.
use Rattle.std.specs.Prelude.{ℕ, length}
use Rattle.vg_width.specs.declared.scratch.WideScratch.{WideScratch}

abbrev pub room_of : WideScratch → ℕ
room_of scratch = length scratch.delays.items
