-- Runs of candidates.
use Rattle.std.specs.Prelude.{◌≡◌, ◌≤◌, ◌^◌, List, length}
use Rattle.std.specs.List.{Contains, between}
use Rattle.vg_front.specs.declared.offer.Candidate.{Candidate}
use Rattle.vg_front.specs.declared.runs.Run.{Run}
use Rattle.vg_front.specs.Meeting.{IsRun}

-- the candidates of a run of a list
abbrev pub run_in : List Candidate → Run → List Candidate
run_in xs r = between r.from r.end xs

-- these candidates stand in the list, all have the run's cost, and neither their costs nor their loads fall
pub record IsRunOf (xs : List Candidate) (r : Run) : Type 0 where
  pub order : r.from ≤ r.end
  pub within : r.end ≤ length xs
  pub rises : IsRun (run_in xs r)
  pub costs : (x : Candidate) → Contains (run_in xs r) x → x.offer.cost ≡ r.cost

-- small enough that two costs together are a cost
abbrev pub AreSmall : List Run → Type 0
AreSmall runs = (r : Run) → Contains runs r → r.cost ≤ 10 ^ 17

-- runs of a list, which have all of these candidates
pub record AreRunsOf (xs some : List Candidate) (runs : List Run) : Type 0 where
  pub each : (r : Run) → Contains runs r → IsRunOf xs r
  pub whole : (x : Candidate) → Contains some x → (r : Run) × Contains runs r × Contains (run_in xs r) x
  pub small : AreSmall runs
