-- Cells that are put into the nets of a design in the order of its parasitics.
use Rattle.std.specs.Prelude.{◌≡◌, ◌≤◌, ℕ, List, Some, slice_get}
use Rattle.vg_change.specs.Changes.{Changes, IsBehind, IsFresh}
use Rattle.vg_design.specs.Designs.{Joined, net_names}
use Rattle.vg_design.specs.Refusals.{IsJoined}

-- cells may be put into the net of this name: its section stands behind those that are replaced, and no pin of it is
-- linked anew
abbrev pub IsOpen : Changes → List ℕ → Type 0
IsOpen c name = (n : Joined) → IsJoined c.design name n → IsBehind c n.par.name × IsFresh c n.id

-- they may be put into each net of the parasitics from this place on
abbrev pub AreOpenFrom : Changes → ℕ → Type 0
AreOpenFrom c at = (k : ℕ) (name : List ℕ) → at ≤ k → slice_get (net_names c.design.spef) k ≡ Some name → IsOpen c name
