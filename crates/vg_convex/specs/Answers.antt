-- What a repeater makes of the candidates of a list.
use Rattle.std.specs.Prelude.{◌≡◌, ◌≢◌, ◌⊎◌, ◌≤◌, ◌<◌, ◌<ℤ◌, ◌≤ℤ◌, ℕ, Bool, true, false, cond, List, [], ◌∷◌, ◌++◌, ◌-◌, length, map, slice_index_or, Option, Some, None, MatchOption}
use Rattle.std.specs.List.{All, Contains}
use Rattle.elmore.specs.Allowances.{Allows}
use Rattle.elmore.specs.Cells.{rep_at}
use Rattle.elmore.specs.Legal.{IsWithin}
use Rattle.elmore.specs.Pairs.{IsUndominated}
use Rattle.elmore.specs.declared.allowed.Allowed.{Allowed}
use Rattle.elmore.specs.declared.pair.Pair.{Pair}
use Rattle.elmore.specs.declared.rep.Rep.{Rep}
use Rattle.cand_pairs.specs.Candidates.{with_cell}
use Rattle.cand_pairs.specs.Merging.{NoneFits, IsGreatestBy}
use Rattle.cand_pool.specs.Candidates.{Candidate, Candidates}
use Rattle.cand_uses.specs.Pairs.{pair_of, pairs_of}
use Rattle.vg_convex.specs.declared.shelf.Driver.{Driver}
use Rattle.vg_convex.specs.declared.shelf.Pin.{Pin}
use Rattle.vg_convex.specs.declared.work.Found.{Found}
use Rattle.vg_convex.specs.declared.work.Made.{Made}
use Rattle.vg_convex.specs.declared.work.Work.{Work}

-- the repeater makes the pair z of candidate x, which is within its limit
pub record IsMadeOf (rep : Rep) (x : Candidate) (z : Pair) : Type 0 where
  pub within : IsWithin rep.limit x.c
  pub made : z ≡ with_cell (Some rep) (pair_of x)

-- a candidate of the list, with this tag, gives the repeater the greatest time, which is this
pub record IsBestOf (rep : Rep) (xs : Candidates) (found : Found) : Type 0 where
  pub from : Candidate
  pub among : Contains xs from
  pub tag : found.tag ≡ from.tag
  pub made : IsMadeOf rep from (record { q = found.time; c = rep.cin })
  pub greatest : IsGreatestBy rep (pairs_of xs) (record { q = found.time; c = rep.cin })

-- what is found for a repeater: nothing where no candidate is within its limit
abbrev pub IsFoundFor : Rep → Candidates → Option Found → Type 0
IsFoundFor rep xs found = MatchOption found (NoneFits rep (pairs_of xs)) (IsBestOf rep xs)

-- the same for the repeater b, and nothing where it is not allowed
abbrev pub IsAnswer : Allowed → List Rep → Candidates → ℕ → Option Found → Type 0
IsAnswer allowed reps xs b found =
    MatchOption found (Allows allowed b → NoneFits (rep_at reps b) (pairs_of xs)) (λ best. Allows allowed b
    × IsBestOf (rep_at reps b) xs best)

-- what stands in a row of results for the repeater b
abbrev pub found_at : List (Option Found) → ℕ → Option Found
found_at found b = slice_index_or found b None

-- a row has a place for the result of each repeater, which is empty where the repeater is not allowed
pub record IsRow (allowed : Allowed) (reps : List Rep) (found : List (Option Found)) : Type 0 where
  pub room : length reps ≤ length found
  pub none : (b : ℕ) → (Allows allowed b → ⊥) → found_at found b ≡ None

-- the row has the result of each repeater of an order
abbrev pub AreAnswered : Allowed → List Rep → Candidates → List ℕ → List (Option Found) → Type 0
AreAnswered allowed reps xs order found = (b : ℕ) → Contains order b → IsAnswer allowed reps xs b (found_at found b)

-- the row has the result of each repeater
abbrev pub AreFound : Allowed → List Rep → Candidates → List (Option Found) → Type 0
AreFound allowed reps xs found = (b : ℕ) → b < length reps → IsAnswer allowed reps xs b (found_at found b)

-- the drivers of an order from one place up to another have their results in a row; other results that stood in it stay
pub record AreServed (allowed : Allowed) (reps : List Rep) (xs : Candidates) (drivers : List Driver) (from to : ℕ)
    (old new : List (Option Found)) : Type 0 where
  pub row : IsRow allowed reps new
  pub each : (i : ℕ) (d : Driver) → from ≤ i → i < to → let b =
      (slice_index_or drivers i d).rep in IsAnswer allowed reps xs b (found_at new b)
  pub others : (b : ℕ) → IsAnswer allowed reps xs b (found_at old b) → IsAnswer allowed reps xs b (found_at new b)

-- the work has the result of each repeater for a list, at a node that allows some of them
pub record HasFound (allowed : Allowed) (reps : List Rep) (xs : Candidates) (work : Work) : Type 0 where
  pub room : length reps ≤ length work.found.items
  pub each : AreFound allowed reps xs work.found.items

-- one work has the results for the list that the buffers drive, and the other one those for the list that the inverters
-- drive
pub record HaveFound (allowed : Allowed) (reps : List Rep) (lists : Bool → Candidates)
    (buffers inverters : Work) : Type 0 where
  pub by_buffers : HasFound allowed reps (lists false) buffers
  pub by_inverters : HasFound allowed reps (lists true) inverters

-- what stands for the repeater b in the row of its kind
abbrev pub found_by : List Rep → List (Option Found) → List (Option Found) → ℕ → Option Found
found_by reps buffers inverters b = cond (rep_at reps b).inverts (found_at inverters b) (found_at buffers b)

-- what stands for a pin's repeater in the row of its kind
abbrev pub found_for : List (Option Found) → List (Option Found) → Pin → Option Found
found_for buffers inverters pin = cond pin.inverts (found_at inverters pin.rep) (found_at buffers pin.rep)

-- the result of its repeater, which is of the order
pub record IsResultOf (reps : List Rep) (found : ℕ → Option Found) (order : List ℕ) (made : Made) : Type 0 where
  pub among : Contains order made.rep
  pub found_is : found made.rep ≡ Some (record { time = made.pair.q; tag = made.tag })
  pub input : made.pair.c ≡ (rep_at reps made.rep).cin

abbrev pub IsResult : List Rep → (ℕ → Option Found) → List ℕ → Pair → Type 0
IsResult reps found order z = (made : Made) × IsResultOf reps found order made × (z ≡ made.pair)

-- the pairs of some results
abbrev pub made_pairs : List Made → List Pair
made_pairs kept = map (λ made. made.pair) kept

-- what becomes of a result after this last one
abbrev pub IsKeptAfter : List Made → List Made → Made → Made → List Made → Type 0
IsKeptAfter old front last made new =
    ((made.pair.q ≤ℤ last.pair.q) × (new ≡ old))
    ⊎ ((last.pair.q <ℤ made.pair.q)
    × (((made.pair.c ≡ last.pair.c) × (new ≡ front ++ made ∷ []))
    ⊎ ((made.pair.c ≢ last.pair.c) × (new ≡ old ++ made ∷ []))))

-- a result goes after the last of a list with more time and more input; it takes the place of a last one with less time
-- and as much input, and is left out after one with no less time
abbrev pub IsKept : List Made → Made → List Made → Type 0
IsKept old made new =
    ((old ≡ []) × (new ≡ made ∷ []))
    ⊎ ((front : List Made) × (last : Made) × (old ≡ front ++ last ∷ []) × IsKeptAfter old front last made new)

-- the last of some results has this pair
abbrev pub IsLast : List Made → Pair → Type 0
IsLast kept last =
    (made : Made) × (0 < length kept) × (made ≡ slice_index_or kept (length kept - 1) made) × (made.pair ≡ last)

-- the undominated ones of the results of these repeaters
pub record AreSwept (reps : List Rep) (found : ℕ → Option Found) (order : List ℕ) (kept : List Made) : Type 0 where
  pub undominated : IsUndominated (IsResult reps found order) (made_pairs kept)
  pub results : All (IsResultOf reps found order) kept
  pub few : length kept ≤ length order
