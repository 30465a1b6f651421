-- Lists of a test, which are made of rows.
use Rattle.std.specs.Prelude.{◌≡◌, ℕ, ℤ, ◌<ℤ◌, List, length}
use Rattle.std.specs.List.{AllPairs}
use Rattle.cand_pool.specs.Candidates.{AreModest}
use Rattle.cand_pool.specs.Pools.{Block, items_of, IsLive}
use Rattle.cand_pool.specs.declared.ends.List.{List as NamedList}

-- a live list of so many candidates within the limits of a pool
abbrev pub IsMade : Block → NamedList → ℕ → Type 0
IsMade s list n = IsLive s list × AreModest (items_of s list) × (length (items_of s list) ≡ n)

-- the times of these rows rise
abbrev pub AreRising : {R : Type 0} → (R → ℤ) → List R → Type 0
AreRising time rows = AllPairs (λ a b. time a <ℤ time b) rows
