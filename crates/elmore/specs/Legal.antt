-- Where cells may stand, and what they may charge.
use Rattle.std.specs.Prelude.{◌≡◌, ℕ, ◌<◌, ◌≤◌, Bool, true, false, List, length, slice_index_or, Option, Some, None, IfSome}
use Rattle.elmore.specs.Cells.{rep_at}
use Rattle.elmore.specs.Allowances.{allowed_at, Allows}
use Rattle.elmore.specs.Placements.{load_of}
use Rattle.elmore.specs.declared.allowed.Allowed.{Allowed}
use Rattle.elmore.specs.declared.rep.Rep.{Rep}
use Rattle.elmore.specs.declared.problem.Problem.{Problem}

-- at most so much, where there is a limit
abbrev pub IsWithin : Option ℕ → ℕ → Type 0
IsWithin limit n = IfSome limit (λ most. n ≤ most)

-- a cell stands only at a place
abbrev pub IsPlacedAt : List Bool → List (Option ℕ) → ℕ → Type 0
IsPlacedAt places cells v = (b : ℕ) → slice_index_or cells v None ≡ Some b → slice_index_or places v false ≡ true

-- only places have a cell
abbrev pub IsPlaced : Problem → List (Option ℕ) → Type 0
IsPlaced p cells = (v : ℕ) → IsPlacedAt p.places cells v

-- the repeater b may stand at a node, which is a place or not and allows some repeaters, and charge this load
pub record IsFit (place : Bool) (allowed : Allowed) (reps : List Rep) (b load : ℕ) : Type 0 where
  pub at_place : place ≡ true
  pub named : b < length reps
  pub allows : Allows allowed b
  pub limit : IsWithin (rep_at reps b).limit load

-- the node v may have this cell, if there is one, and charge this load
abbrev pub MayHave : Problem → ℕ → Option ℕ → ℕ → Type 0
MayHave p v own load =
    (b : ℕ) → own ≡ Some b → IsFit (slice_index_or p.places v false) (allowed_at p.allowed v) p.reps b load

-- and where it is the root, the driver may charge this load
pub record IsLegalWith (p : Problem) (v : ℕ) (own : Option ℕ) (load : ℕ) : Type 0 where
  pub cell : MayHave p v own load
  pub driver : v ≡ 0 → IsWithin p.driver.limit load

-- a placement is legal at v, where the nodes have these loads
abbrev pub IsLegalAt : Problem → List (Option ℕ) → (ℕ → ℕ) → ℕ → Type 0
IsLegalAt p cells load v = IsLegalWith p v (slice_index_or cells v None) (load v)

-- legal with these loads, and with its own
abbrev pub IsLegalBy : Problem → List (Option ℕ) → (ℕ → ℕ) → Type 0
IsLegalBy p cells load = (v : ℕ) → IsLegalAt p cells load v

abbrev pub IsLegal : Problem → List (Option ℕ) → Type 0
IsLegal p cells = IsLegalBy p cells (load_of p cells)

-- v is the first node, in tree order, at which it is not legal
pub record IsFirstIllegal (p : Problem) (cells : List (Option ℕ)) (v : ℕ) : Type 0 where
  pub illegal : IsLegalAt p cells (load_of p cells) v → ⊥
  pub before : (u : ℕ) → u < v → IsLegalAt p cells (load_of p cells) u
