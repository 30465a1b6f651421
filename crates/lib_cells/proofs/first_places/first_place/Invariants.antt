use Rattle.std.proofs.Common.{◌≡◌, ℕ, ◌<◌, [], false, get_or}
use Rattle.std.specs.Str.{bytes_eq}
use Rattle.lib_cells.proofs.first_places.first_place.Given as goal

abbrev pub invariant-name : goal.invariant-name
invariant-name l = (k : ℕ) → k < l.at → bytes_eq l.name (get_or l.names k []) ≡ false
