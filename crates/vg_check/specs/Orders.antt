-- Repeaters in the order of their limits.
use Rattle.std.specs.Prelude.{◌≡◌, ℕ, ◌^◌, ◌<◌, List, length, slice_index_or, Option, MatchOption}
use Rattle.elmore.specs.Cells.{rep_at}
use Rattle.elmore.specs.Legal.{IsWithin}
use Rattle.elmore.specs.declared.rep.Rep.{Rep}
use Rattle.vg_check.specs.declared.order.Rank.{Rank}

-- what puts a repeater in its place: a limit has 64 bits, and none is 2^64
abbrev pub IsKeyOf : Option ℕ → ℕ → Type 0
IsKeyOf limit key = MatchOption limit (key ≡ 2 ^ 64) (λ most. (key ≡ most) × (most < 2 ^ 64))

pub record IsRank (reps : List Rep) (rank : Rank) : Type 0 where
  pub named : rank.rep < length reps
  pub key : IsKeyOf (rep_at reps rank.rep).limit rank.key

abbrev pub rank_at : List Rank → ℕ → Rank
rank_at ranks k = slice_index_or ranks k (record { key = 0; rep = 0 })

-- one of the ranks is that of the repeater b
abbrev pub HasRep : List Rank → ℕ → Type 0
HasRep ranks b = (k : ℕ) × (k < length ranks) × ((rank_at ranks k).rep ≡ b)

-- each of the repeaters is there, and what is within the limit of one is within that of a later one
pub record IsOrder (reps : List Rep) (ranks : List Rank) : Type 0 where
  pub each : (k : ℕ) → k < length ranks → (rank_at ranks k).rep < length reps
  pub all : (b : ℕ) → b < length reps → HasRep ranks b
  pub rising : (i k load : ℕ) → i < k → k < length ranks → IsWithin (rep_at reps (rank_at ranks i).rep).limit load
      → IsWithin (rep_at reps (rank_at ranks k).rep).limit load
