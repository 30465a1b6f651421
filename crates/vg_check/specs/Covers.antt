-- Lists of a node that cover what comes up to it.
use Rattle.std.specs.Prelude.{ℕ, ◌<◌, ◌≤◌, Bool, List, length, Some}
use Rattle.std.specs.List.{All, AllPairs, Contains}
use Rattle.elmore.specs.Cells.{rep_at}
use Rattle.elmore.specs.Pairs.{IsBelow}
use Rattle.elmore.specs.declared.pair.Pair.{Pair}
use Rattle.elmore.specs.declared.problem.Problem.{Problem}
use Rattle.elmore.specs.declared.rep.Rep.{Rep}
use Rattle.cand_pairs.specs.Candidates.{past_cell}
use Rattle.cand_pairs.specs.Merging.{AreCoveredBy, IsChoiceAt, IsGreatestBy, IsModest, Owns}
use Rattle.vg_check.specs.Hulls.{pair_at}

-- the list rises, and its numbers are small enough for one more step
pub record IsWorked (xs : List Pair) : Type 0 where
  pub rising : AllPairs IsBelow xs
  pub modest : All IsModest xs

-- the lists of each class, of pairs that come up to a node or are written of it
abbrev pub ClassLists : Type 0
ClassLists = Bool → List Pair

abbrev pub AreWorked : ClassLists → Type 0
AreWorked lists = (odd : Bool) → IsWorked (lists odd)

-- in each class the joins are dominated by entries
abbrev pub CoversJoins : ClassLists → ClassLists → Type 0
CoversJoins joins entries = (odd : Bool) → AreCoveredBy (Contains (joins odd)) (entries odd)

-- in each class the greatest pair that the repeater makes of the joins, those of the class past it, is dominated by an
-- entry
abbrev pub CoversCell : Rep → ClassLists → ClassLists → Type 0
CoversCell rep joins entries =
    (odd : Bool) → AreCoveredBy (IsGreatestBy rep (joins (past_cell (Some rep) odd))) (entries odd)

-- of each repeater that may stand at v
abbrev pub CoversCells : Problem → ℕ → ClassLists → ClassLists → Type 0
CoversCells p v joins entries = (b : ℕ) → IsChoiceAt p v b → CoversCell (rep_at p.reps b) joins entries

-- in each class, with and without a cell
abbrev pub CoversOwns : Problem → ℕ → ClassLists → ClassLists → Type 0
CoversOwns p v joins entries = (odd : Bool) → AreCoveredBy (Owns p v odd joins) (entries odd)

-- of each repeater that may stand at v, the greatest pair that it makes of those of one class of joins is dominated by
-- an entry of the class that this pair is of
abbrev pub CoversFrom : Problem → ℕ → Bool → List Pair → ClassLists → Type 0
CoversFrom p v odd xs entries =
    (b : ℕ) → IsChoiceAt p v b
    → AreCoveredBy (IsGreatestBy (rep_at p.reps b) xs) (entries (past_cell (Some (rep_at p.reps b)) odd))

-- the first n entries have no more than this load, and the others have
pub record IsCountWithin (entries : List Pair) (load n : ℕ) : Type 0 where
  pub inside : n ≤ length entries
  pub within : (k : ℕ) → k < n → (pair_at entries k).c ≤ load
  pub past : (k : ℕ) → n ≤ k → k < length entries → load < (pair_at entries k).c
