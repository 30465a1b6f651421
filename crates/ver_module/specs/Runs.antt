-- Nets of one identifier, which follow one another.
use Rattle.std.specs.Prelude.{◌≡◌, ◌≢◌, ℕ, ◌<◌, ◌≤◌, List, Some, length, slice_get}
use Rattle.ver_module.specs.Netlists.{IsNamed, Net}

-- the nets from one number up to another are of one identifier, and the one behind them is of another
pub record IsRun (nets : List Net) (from to : ℕ) : Type 0 where
  -- there is one at least
  pub some : from < to
  -- all of them are there
  pub within : to ≤ length nets
  -- each has the identifier of the first, and is a supply if that is one
  pub same : (n : ℕ) (first net : Net) → from ≤ n → n < to
      → slice_get nets from ≡ Some first → slice_get nets n ≡ Some net
      → (net.base ≡ first.base) × (net.supply ≡ first.supply)
  -- each has the name of its identifier, a bit with its number
  pub named : (n : ℕ) (net : Net) → from ≤ n → n < to → slice_get nets n ≡ Some net → IsNamed net
  -- they end there: the net behind them, if there is one, has another identifier
  pub ends : (first next : Net) → slice_get nets from ≡ Some first → slice_get nets to ≡ Some next
      → next.base ≢ first.base
