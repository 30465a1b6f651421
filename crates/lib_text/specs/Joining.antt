-- A text joined in place, as the code does it: for the functions between.
use Rattle.std.specs.Prelude.{◌≡◌, ℕ, ◌<◌, ◌≤◌, List, ◌++◌, length, take, drop}
use Rattle.lib_text.specs.Joined.{joined}

-- the rest is joined as before, with what stands before it
pub record Joins (old new : List ℕ) (at to : ℕ) : Type 0 where
  pub same : take to new ++ joined (drop to new) ≡ take at old ++ joined (drop at old)
  pub on : at < to
  pub within : to ≤ length old
  pub long : length new ≡ length old
