-- What a valid certificate shows.
use Rattle.std.proofs.Common.{ℕ, Bool, List, ℤ, Option, Some, None}
use Rattle.elmore.specs.Pairs.{IsUndominated}
use Rattle.cand_pairs.specs.Candidates.{IsOpen, IsStep, IsCoveredAt, of_lists, NodeLists}
use Rattle.cand_pairs.specs.Certificates.{IsValid, IsShown}
use Rattle.cand_pairs.specs.Merging.{Owns, AreCoveredBy}
use Rattle.elmore.specs.declared.pair.Pair.{Pair}
use Rattle.elmore.specs.declared.problem.Problem.{Problem}
use Rattle.cand_pairs.proofs.CoverLemmas.{cover_most, cover_none}
use Rattle.cand_pairs.proofs.MergeLemmas.{IsDense, owns_dense, dense_covered}

pub valid_shows : (p : Problem) (slack : Option ℤ) (cells : List (Option ℕ)) (lists : NodeLists) → IsValid p slack cells lists → IsShown p slack cells
valid_shows p None cells lists valid = cover_none p (of_lists lists) valid.cover valid.empty
valid_shows p (Some x) cells lists valid = record {
  good = valid.good;
  slack = valid.slack;
  most = cover_most p (of_lists lists) x valid.cover valid.bound;
}

pub joins_decide : (p : Problem) (lists : NodeLists) (v : ℕ) (joins : Bool → List Pair)
    → ((odd : Bool) → IsUndominated (IsOpen p (of_lists lists) v odd) (joins odd))
    → (IsCoveredAt p (of_lists lists) v → (odd : Bool) → AreCoveredBy (Owns p v odd joins) (lists v odd))
    × (((odd : Bool) → AreCoveredBy (Owns p v odd joins) (lists v odd)) → IsCoveredAt p (of_lists lists) v)
joins_decide p lists v joins joins_are = (
  λ covered odd x x_in. covered odd x ((dense odd).part x x_in),
  λ covered odd x x_in. dense_covered (Owns p v odd joins) (IsStep p (of_lists lists) v odd) (lists v odd) (dense odd) (covered odd) x x_in,
)
  where
    dense : (odd : Bool) → IsDense (Owns p v odd joins) (IsStep p (of_lists lists) v odd)
    dense odd = owns_dense p (of_lists lists) v odd joins joins_are
