-- Rows by their keys: each is in the chain of its key's hash, or kept in order.
use Rattle.std.specs.Prelude.{◌≡◌, ℕ, List, Option, None, Some, IfSome, is_some, map, if◌then◌else◌}
use Rattle.std.specs.List.{slice_get}
use Rattle.name_tables.specs.Chains.{AreChains, rows_of}
use Rattle.name_tables.specs.declared.chains.Chains.{Chains}

-- the hashes of keys; one whose row is kept in order has none
unfoldable pub hashes_by : {K : Type 0} → (K → ℕ) → (K → Option ℕ) → List K → List (Option ℕ)
hashes_by hash kept keys = map (λ key. if is_some (kept key) then None else Some (hash key)) keys

-- the rows of keys are in the chains of their hashes, but for those that are kept in order
pub record AreFiled {K : Type 0} (hash : K → ℕ) (kept : K → Option ℕ) (keys : List K) (chains : Chains) : Type 0 where
  pub chained : AreChains chains
  pub hashes : rows_of chains ≡ hashes_by hash kept keys
  pub ordered : (key : K) → IfSome (kept key) (λ row. slice_get keys row ≡ Some key)
