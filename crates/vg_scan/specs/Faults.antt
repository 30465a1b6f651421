-- The faults of a text's lines, and the first of them.
use Rattle.std.specs.Prelude.{◌≡◌, ℕ, ◌+◌, ◌-◌, ◌<◌, ◌≤◌, Option, Some, None}
use Rattle.vg_scan.specs.declared.fault.LineFault.{LineFault}

-- none of the first n lines has a fault, given each line's fault by its place from 0
abbrev pub IsClear : {K : Type 0} → (ℕ → Option K) → ℕ → Type 0
IsClear fault_at n = (i : ℕ) → i < n → fault_at i ≡ None

-- the first fault of so many lines, the first of which has this number
pub record IsFirstFault {K : Type 0} (fault_at : ℕ → Option K) (count first : ℕ) (fault : LineFault K) : Type 0 where
  pub counted : first ≤ fault.line
  pub within : fault.line < first + count
  pub before : IsClear fault_at (fault.line - first)
  pub here : fault_at (fault.line - first) ≡ Some fault.kind
